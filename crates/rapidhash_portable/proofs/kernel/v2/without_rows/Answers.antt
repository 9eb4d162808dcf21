use Rattle.std.proofs.Common.{not, nat_eq, nat_lt, if◌then◌else◌, length, slice_index, bit_xor, arith}
use Rattle.rapidhash_portable.specs.declared.form.Form.TheVariants.{V2}
use Rattle.rapidhash_portable.specs.Form.{options, tail_seed}
use Rattle.rapidhash_portable.specs.Lanes.{pair_of}
use Rattle.rapidhash_portable.specs.Words.{mixed_words}
use Rattle.rapidhash_portable.proofs.FormLemmas.{shape_of-v2-none, tail_places-v2-none}
use Rattle.rapidhash_portable.proofs.HashLemmas.{hash-rowless}
use Rattle.rapidhash_portable.proofs.TailLemmas.{after_tail-single}
use Rattle.rapidhash_portable.proofs.kernel.v2.without_rows.Goals as goal

pub returns : goal.returns
unfolding tail_seed mixed_words
returns g c = λ seed start.
    let x = c.args.bytes.now in
    let chosen = options (not (nat_eq g.row.AVALANCHE 0)) (not (nat_eq g.row.PROTECTED 0)) in
    let shape = shape_of-v2-none g.row.MINOR (length x) c.requires.rowless in
    let hash = hash-rowless (V2 g.row.MINOR) chosen seed c.args.secrets.now x (omega arith) c.requires.above_16 shape in
    let places = tail_places-v2-none g.row.MINOR (length x) c.requires.rowless in
    grind (arith, start, hash, places, c.close_long-2.ensures g.row.MINOR (length x))

pub returns-then-len-le32 : goal.returns-then-len-le32
unfolding tail_seed mixed_words
returns-then-len-le32 g c = λ seed start.
    let x = c.args.bytes.now in
    let secrets = c.args.secrets.now in
    let chosen = options (not (nat_eq g.row.AVALANCHE 0)) (not (nat_eq g.row.PROTECTED 0)) in
    let shape = shape_of-v2-none g.row.MINOR (length x) c.requires.rowless in
    let hash = hash-rowless (V2 g.row.MINOR) chosen seed secrets x (omega arith) c.requires.above_16 shape in
    let places = tail_places-v2-none g.row.MINOR (length x) c.requires.rowless in
    let last = slice_index secrets (if nat_lt g.row.MINOR 2 then 0 else 1) in
    let single = after_tail-single chosen.protected (slice_index secrets 0) (slice_index secrets 1) last (pair_of x) (length x) (bit_xor seed (length x)) (omega arith) in
    grind (arith, start, single, hash, places, c.close_long.ensures g.row.MINOR (length x))
