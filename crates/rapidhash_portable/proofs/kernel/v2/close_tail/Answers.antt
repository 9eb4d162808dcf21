use Rattle.std.proofs.Common.{not, nat_eq, arith, length}
use Rattle.rapidhash_portable.specs.declared.form.Form.TheVariants.{V2}
use Rattle.rapidhash_portable.specs.Form.{options, tail_seed, tail_places}
use Rattle.rapidhash_portable.specs.Words.{mixed_words}
use Rattle.rapidhash_portable.proofs.Cases.{tests}
use Rattle.rapidhash_portable.proofs.HashLemmas.{hash-is}
use Rattle.rapidhash_portable.proofs.WordsLemmas.{last_words-long}
use Rattle.rapidhash_portable.proofs.kernel.v2.close_tail.Goals as goal

pub returns : goal.returns
unfolding mixed_words tail_seed tail_places
returns g c = λ minor seed x above size last rows.
    let chosen = options (not (nat_eq g.row.AVALANCHE 0)) (not (nat_eq g.row.PROTECTED 0)) in
    let hash = hash-is (V2 minor) chosen seed _ x _ _ rows in
    let words = last_words-long (V2 minor) x (grind (arith, tests)) in
    grind (arith, tests, hash, words, c.close_long.ensures minor (length c.args.tail.now))
