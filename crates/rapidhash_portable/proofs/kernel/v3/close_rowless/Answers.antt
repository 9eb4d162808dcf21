use Rattle.std.proofs.Common.{not, nat_eq, length, arith}
use Rattle.rapidhash_portable.specs.declared.form.Form.TheVariants.{V3}
use Rattle.rapidhash_portable.specs.Form.{options, tail_seed, tail_places}
use Rattle.rapidhash_portable.proofs.FormLemmas.{shape_of-v3-none, start_seed-long}
use Rattle.rapidhash_portable.proofs.HashLemmas.{close-moved, hash-rowless}
use Rattle.rapidhash_portable.proofs.WordsLemmas.{mixed_words-long}
use Rattle.rapidhash_portable.proofs.kernel.v3.close_rowless.Goals as goal

pub returns : goal.returns
unfolding tail_seed tail_places
returns g c =
    let x = c.args.bytes.now in
    let chosen = options (not (nat_eq g.row.AVALANCHE 0)) (not (nat_eq g.row.PROTECTED 0)) in
    let shape = shape_of-v3-none g.row.LANES (length x) (omega arith) c.requires.rowless in
    let hash = hash-rowless (V3 g.row.LANES) chosen c.args.seed c.args.secrets.now x c.requires.odd c.requires.above_16 shape in
    let start = start_seed-long g.row.LANES (length x) c.args.seed c.requires.above_16 in
    grind (arith, hash, start, c.tail_secrets.ensures g.row.LANES (length x), mixed_words-long, close-moved)
