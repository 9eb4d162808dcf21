use Rattle.std.proofs.Common.{◌≡◌, ◌+◌, ◌*◌, length, take, not, nat_eq}
use Rattle.rapidhash_portable.specs.Lanes.{pair_of}
use Rattle.rapidhash_portable.specs.Tail.{after_tail}
use Rattle.rapidhash_portable.proofs.tail.fold_tail.Given as goal

abbrev pub invariant-loop-j : goal.invariant-loop-j
invariant-loop-j g l = record {
  folded : l.seed ≡ after_tail (not (nat_eq g.row.PROTECTED 0)) (take l.j l.table) (pair_of l.tail) 0 (length l.tail) l.start;
  end : l.end ≡ 16 * l.j + 16;
}
