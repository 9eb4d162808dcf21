use Rattle.std.proofs.Common.{◌≡◌, ℕ, List, length, refl, sym, ap, ◌∙◌, arith, true≢false}
use Rattle.std.proofs.lemmas.Bool.Decides.{Decides-eqb, not_from_Decides}
use Rattle.std.proofs.lemmas.Slice.Eq.{slice_eq-Decides}
use Rattle.rapidhash_portable.specs.Damage.{IsDamaged}
use Rattle.rapidhash_portable.specs.Saved.{checked, option_byte, saved_body, saved_parts, secrets_mark}
use Rattle.rapidhash_portable.proofs.DamageLemmas.{are_bytes, damage_refused}
use Rattle.rapidhash_portable.proofs.SavedLemmas.{restored-bytes, restored-fits, restored-least, restored-represents, restored-unused, size-saved}
use Rattle.rapidhash_portable.proofs.v3.stream.RapidStreamHasherLanes.restore.Goals as goal
use Rattle.rapidhash_portable.proofs.v3.stream.RapidStreamHasherLanes.restore.Goals.{then-parts-via-then-parts, then-parts-via-else-parts+then-parts-2}

pub returns-then-bytes-ne-SAVED_SIZE-clause-same : goal.returns-then-bytes-ne-SAVED_SIZE-clause-same
returns-then-bytes-ne-SAVED_SIZE-clause-same g c = λ x h. absurd (omega (arith, size-saved h c.requires.lanes, c.if-bytes-ne-SAVED_SIZE.true))

pub returns-then-parts-clause-same : goal.returns-then-parts-clause-same
returns-then-parts-clause-same g c = λ x h.
    let read = c.restore-parts.ensures.data in
    let secrets = c.restore-parts.ensures.secrets in
    let fits = restored-fits h c.requires.lanes read secrets (omega arith) in
    let least = restored-least h c.requires.lanes read secrets (omega arith) in
    elim c.then-parts.branch [
      | then-parts-via-then-parts w ↦ absurd (omega (arith, fits, w.if-parts.true))
      | then-parts-via-else-parts+then-parts-2 w ↦ absurd (omega (arith, least, w.if-parts-2.true))
    ]

pub returns-then-not-unused_hold_seed-clause-same : goal.returns-then-not-unused_hold_seed-clause-same
returns-then-not-unused_hold_seed-clause-same g c = λ x h.
    let unused = restored-unused h c.requires.lanes c.restore-parts.ensures.data c.restore-parts.ensures.secrets (omega arith) in
    absurd (true≢false (sym (c.unused_hold_seed.ensures.1 unused) ∙ c.if-not-unused_hold_seed.true))

pub returns-else-eq-clause-same : goal.returns-else-eq-clause-same
returns-else-eq-clause-same g c = λ x h.
    let same = restored-bytes h c.requires.lanes c.restore-parts.ensures.data c.restore-parts.ensures.secrets (omega arith) in
    let saved = c.save-saved.ensures.bytes ∙ ap (λ options. saved_parts g.row.LANES options c.restore-parts.result) c.option_byte.ensures in
    not_from_Decides _ (slice_eq-Decides Decides-eqb c.save-saved.result c.args.bytes.now _ refl) (sym c.if-eq.ensures) (saved ∙ same)

pub returns-then-eq-clause-same : goal.returns-then-eq-clause-same
returns-then-eq-clause-same g c = λ x h. restored-represents h c.requires.lanes c.restore-parts.ensures.data c.restore-parts.ensures.secrets (omega arith)

pub returns-then-eq-clause-only : goal.returns-then-eq-clause-only
returns-then-eq-clause-only g c = record {
  bytes_are =
      ap (λ options. saved_parts g.row.LANES options c.restore-parts.result) (sym c.option_byte.ensures)
      ∙ sym c.save-saved.ensures.bytes
      ∙ (slice_eq-Decides Decides-eqb c.save-saved.result c.args.bytes.now _ refl).0 (sym c.if-eq.ensures);
  secrets_are = c.restore-parts.ensures.secrets;
  unused = c.unused_hold_seed.ensures.0 c.if-not-unused_hold_seed.false;
  least = λ on. omega (arith, rw on at c.if-parts-2.false);
  count = c.restore-parts.ensures.data.none;
}

pub returns-then-eq-clause-damage : goal.returns-then-eq-clause-damage
returns-then-eq-clause-damage g c = λ lanes avalanche protected x saved h bytes damage.
    let body : List ℕ = saved_body lanes (option_byte avalanche protected) h.parts in
    let body' : List ℕ = saved_body g.row.LANES c.option_byte.result c.restore-parts.result in
    let is : saved ≡ checked c.args.secrets.now body = sym h.bytes_are ∙ ap (λ secrets. checked secrets body) h.secrets_are in
    let again : c.save-saved.result ≡ checked c.args.secrets.now body' =
    c.save-saved.ensures.bytes ∙ ap (λ secrets. checked secrets body') c.restore-parts.ensures.secrets in
    let same = (slice_eq-Decides Decides-eqb c.save-saved.result c.args.bytes.now _ refl).0 (sym c.if-eq.ensures) in
    let size : length (checked c.args.secrets.now body) ≡ 208 =
    sym (ap length is) ∙ sym damage.size ∙ c.if-bytes-ne-SAVED_SIZE.false in
    absurd (damage_refused (secrets_mark c.args.secrets.now) body body'
    (rw is at (are_bytes saved bytes))
    (rw again at (are_bytes c.save-saved.result c.save-saved.ensures.octets))
    (omega (arith, size))
    (rw (is, sym same ∙ again) at damage))
