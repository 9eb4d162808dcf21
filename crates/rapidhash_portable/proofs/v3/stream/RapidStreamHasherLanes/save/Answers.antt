use Rattle.std.proofs.Common.{refl, sym, ap, ◌∙◌, arith}
use Rattle.rapidhash_portable.specs.Saved.{saved_parts}
use Rattle.rapidhash_portable.proofs.v3.stream.RapidStreamHasherLanes.save.Goals as goal

pub returns-clause-saved : goal.returns-clause-saved
returns-clause-saved g c = λ earlier x h. record {
  parts = c.args.self.now.state.parts;
  earlier = earlier;
  represents = h;
  secrets_are = refl;
  words = c.save.ensures.words;
  size = omega arith;
  fits = c.args.self.now.state.fits;
  bytes_are = sym (c.save.ensures.bytes ∙ ap (λ options. saved_parts g.row.LANES options c.args.self.now.state.parts) c.option_byte.ensures);
}
