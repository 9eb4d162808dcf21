use Rattle.std.proofs.Common.{Bor, ◌<◌, refl, get_or, [], rules, ◌≡◌, ◌∙◌, ℕ, List, slice_index, length, ⊎_elim, ap, sym, arith}
use Rattle.std.proofs.lemmas.Bool.{cases_eq}
use Rattle.std.proofs.lemmas.Grind.{get_or_default_zero}
use Rattle.example_perfect.specs.Table.{IsKeyAt, IsPerfect, bucket_of, place_in}
use Rattle.example_perfect.proofs.Keys.{key_is, key_there, key_within, place_inside}
use Rattle.example_perfect.proofs.table.Table.is_perfect.Goals as goal

pub loop-i-preserved : goal.loop-i-preserved
loop-i-preserved c = λ (i : ℕ) (key : List ℕ) below at.
    ⊎_elim
    (λ (same : i ≡ c.loop-i.i).
    let is : place_in c.args.self.now key ≡ c.place.result = ap (λ (k : List ℕ). place_in c.args.self.now k) (key_is c.args.self.now.keys.now i key (record { ref_ptr = (0, 0); now = [] }) at ∙ ap (λ (k : ℕ). (get_or c.args.self.now.keys.now k (record { ref_ptr = (0, 0); now = [] })).now) same) ∙ sym c.place.ensures.value in
    let read : slice_index c.args.self.now.places.items c.place.result ≡ c.index.result.now =
    sym (get_or_default_zero c.args.self.now.places.items c.place.result c.index.result.now c.place.ensures.inside) ∙ sym c.index.ensures in
    let told : c.index.result.now ≡ c.loop-i.i = search rules in
    ap (λ (p : ℕ). slice_index c.args.self.now.places.items p) is ∙ read ∙ told ∙ sym same)
    (λ other. c.loop-i.invariant i key (omega arith) at)
    (cases_eq i c.loop-i.i)

-- if the index of a key is not at its place, the table is not perfect
pub returns-then-index-i : goal.returns-then-index-i
returns-then-index-i c =
    let none : Bor (List ℕ) = record { ref_ptr = (0, 0); now = [] } in
    let inside : c.loop-i.i < length c.args.self.now.keys.now = search rules in (
      (λ no. search rules),
      (λ (perfect : IsPerfect c.args.self.now).
          let key : List ℕ = (get_or c.args.self.now.keys.now c.loop-i.i none).now in
          let stands : slice_index c.args.self.now.places.items (place_in c.args.self.now key) ≡ c.loop-i.i =
          perfect.stands c.loop-i.i key (key_there c.args.self.now.keys.now c.loop-i.i none inside) in
          let read : slice_index c.args.self.now.places.items c.place.result ≡ c.index.result.now =
          sym (get_or_default_zero c.args.self.now.places.items c.place.result c.index.result.now c.place.ensures.inside) ∙ sym c.index.ensures in
          let told : c.index.result.now ≡ c.loop-i.i =
          sym read ∙ ap (λ (p : ℕ). slice_index c.args.self.now.places.items p) c.place.ensures.value ∙ stands in
          absurd (search rules)),
    )

pub returns : goal.returns
returns c =
    let stands : (i : ℕ) (key : List ℕ) → IsKeyAt c.args.self.now i key → slice_index c.args.self.now.places.items (place_in c.args.self.now key) ≡ i =
    λ i key at. let inside = key_within c.args.self.now.keys.now i key at in c.loop-i.invariant i key (search rules) at in (
      (λ yes. record {
        room = c.requires;
        inside = λ i key at. place_inside key (slice_index c.args.self.now.seeds.items (bucket_of key (length c.args.self.now.seeds.items))) (length c.args.self.now.places.items) c.requires.place;
        stands = stands;
        own = λ i j key other at there same. sym (stands i key at) ∙ ap (λ (p : ℕ). slice_index c.args.self.now.places.items p) same ∙ stands j other there;
      }),
      (λ perfect. refl),
    )
