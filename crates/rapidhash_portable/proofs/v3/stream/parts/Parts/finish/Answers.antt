use Rattle.std.proofs.Common.{◌≡◌, ◌-◌, ◌+◌, ℕ, take, drop, ap, ◌∙◌, arith}
use Rattle.rapidhash_portable.proofs.StreamLemmas.{AfterRows-represents, chunk-below, last_16-kept}
use Rattle.rapidhash_portable.proofs.v3.stream.parts.Parts.finish.Goals as goal

pub returns : goal.returns
returns g c = λ earlier x h.
    let s = c.args.self.now in
    let count = c.requires.lanes in
    let on : s.any ≡ _ = c.if-not-self.false in
    let long = chunk-below count h (omega arith) c.requires.fits on in
    let new : take (16 + s.len - 16) (drop 16 s.kept) ≡ take s.len (drop 16 s.kept) = let e : 16 + s.len - 16 ≡ s.len = omega arith in ap (λ (n : ℕ). take n (drop 16 s.kept)) e in
    let rows = AfterRows-represents count h (omega arith) c.requires.fits on _ c.joined-joined.ensures in
    c.close_tail.ensures g.row.LANES s.secrets.now.seed x (omega arith) (last_16-kept count h (omega arith) c.requires.fits on) (record { joined = rows.joined; rest = new ∙ rows.rest })
