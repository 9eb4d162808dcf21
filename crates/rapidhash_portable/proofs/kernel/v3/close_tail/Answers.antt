use Rattle.std.proofs.Common.{not, nat_eq, length, arith}
use Rattle.rapidhash_portable.specs.declared.form.Form.TheVariants.{V3}
use Rattle.rapidhash_portable.specs.Form.{options, tail_seed, tail_places}
use Rattle.rapidhash_portable.proofs.FormLemmas.{start_seed-long}
use Rattle.rapidhash_portable.proofs.HashLemmas.{hash-is}
use Rattle.rapidhash_portable.proofs.WordsLemmas.{last_words-long, mixed_words-long}
use Rattle.rapidhash_portable.proofs.kernel.v3.close_tail.Goals as goal

pub returns : goal.returns
unfolding tail_seed tail_places
returns g c = λ lanes seed x long last rows.
    let chosen = options (not (nat_eq g.row.AVALANCHE 0)) (not (nat_eq g.row.PROTECTED 0)) in
    let start = start_seed-long lanes (length x) seed long in
    let hash = hash-is (V3 lanes) chosen seed c.args.secrets.now x c.args.tail.now c.args.joined (rw start rows) in
    grind (arith, hash, c.tail_secrets.ensures lanes (length x), last_words-long (V3 lanes) x long, mixed_words-long)
