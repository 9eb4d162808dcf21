-- Writes of a hasher with a sponge that may be joined, or may change places.
use Rattle.std.proofs.Common.{◌≡◌, ℕ, ◌+◌, ◌*◌, ◌^◌, Bool, true, List, [], ◌∷◌, ◌++◌, refl, sym, ap, ◌∙◌, arith, append_assoc, subst}
use Rattle.std.proofs.lemmas.Nat.{pow-add}
use Rattle.rapidhash_portable.specs.declared.form.Options.{Options}
use Rattle.rapidhash.specs.Hasher.{NumbersRepresent}
use Rattle.rapidhash.specs.Laws.{JoinsWrites, TurnsWrites, item_of, value_of, width_of}
use Rattle.rapidhash.specs.RapidHasher.{Absorbs, options_of, secrets_of_hasher}
use Rattle.rapidhash.specs.declared.laws.blocks.Num.{Num as Integer}
use Rattle.rapidhash.specs.declared.inner.hasher.RapidHasher.{RapidHasher}
use Rattle.rapidhash.specs.Sponge.{IsItem, Item, Num, end_of}
use Rattle.rapidhash.proofs.HasherLemmas.{represents-behind}

-- a hasher that shares a list with another hasher represents the lists of the other too
represents-same : {options : Options} {sponge : Bool} {secrets : List ℕ} {seed number width seed' number' width' start : ℕ} {items items' : List Item}
    → NumbersRepresent options sponge secrets seed number width start items → NumbersRepresent options sponge secrets seed' number' width' start items
    → NumbersRepresent options sponge secrets seed' number' width' start items' → NumbersRepresent options sponge secrets seed number width start items'
represents-same here there other = record {
  start_fits = other.start_fits;
  items_fit = other.items_fit;
  seed_is = here.seed_is ∙ sym there.seed_is ∙ other.seed_is;
  number_is = here.number_is ∙ sym there.number_is ∙ other.number_is;
  bits_are = here.bits_are ∙ sym there.bits_are ∙ other.bits_are;
}

-- one item behind another, as a list of two
pub represents-two : {options : Options} {sponge : Bool} {secrets : List ℕ} {seed number width start : ℕ} (items : List Item) (x y : Item)
    → NumbersRepresent options sponge secrets seed number width start ((items ++ x ∷ []) ++ y ∷ [])
    → NumbersRepresent options sponge secrets seed number width start (items ++ x ∷ y ∷ [])
represents-two {options} {sponge} {secrets} {seed} {number} {width} {start} items x y h =
    subst (NumbersRepresent options sponge secrets seed number width start) (append_assoc items (x ∷ []) (y ∷ [])) h

-- equal secrets
under : {options : Options} {secrets secrets' : List ℕ} {seed number width start : ℕ} {items : List Item} → secrets ≡ secrets'
    → NumbersRepresent options true secrets' seed number width start items → NumbersRepresent options true secrets seed number width start items
under {options} {seed = seed} {number = number} {width = width} {start = start} {items = items} same h =
    subst (λ words. NumbersRepresent options true words seed number width start items) (sym same) h

-- two writes of integers of one width are the joined write, where the last block has room
pub joins-writes : {avalanche compact protected : ℕ} {old mid new : RapidHasher avalanche 1 compact protected} (bits low high : ℕ)
    → IsItem (Num bits low) → IsItem (Num bits high) → IsItem (Num (2 * bits) (low + high * 2 ^ bits))
    → Absorbs old mid (Num bits low) → Absorbs mid new (Num bits high) → JoinsWrites old new bits low high
joins-writes {old = old} {new = new} bits low high is_low is_high is_both first second = record {
  secrets = second.secrets ∙ first.secrets;
  apart = λ start items h. represents-two items _ _ (second.represents start _ (first.represents start items h));
  joined = λ start items h room.
      let before = under (second.secrets ∙ first.secrets) h in
      let we : old.sponge.width ≡ (end_of items).1 = h.bits_are in
      let one = represents-behind _ true (secrets_of_hasher new) _ _ _ start items bits low _ _ refl is_low (omega arith) refl refl before in
      let two = represents-behind _ true (secrets_of_hasher new) _ _ _ start _ bits high _ _ refl is_high (omega arith) refl refl one in
      let sum : old.sponge.bits + low * 2 ^ old.sponge.width + high * 2 ^ (old.sponge.width + bits) ≡ old.sponge.bits + (low + high * 2 ^ bits) * 2 ^ old.sponge.width =
      ap (λ power. old.sponge.bits + low * 2 ^ old.sponge.width + high * power) (pow-add 2 old.sponge.width bits) ∙ omega arith in
      let both = represents-behind _ true (secrets_of_hasher new) _ _ _ start items (2 * bits) _ _ _ refl is_both (omega arith) sum (omega arith) before in
      represents-same (represents-two items _ _ (second.represents start _ (first.represents start items h))) (represents-two _ _ _ two) both;
}

-- a write that leaves the last block alone and a write of an integer may change places, where the block has room
pub turns-writes : {avalanche compact protected after : ℕ} {old mid new : RapidHasher avalanche 1 compact protected} (item : Item) (number : Integer)
    → ((start bits width : ℕ) (items : List Item) → NumbersRepresent (options_of old) true (secrets_of_hasher new) old.seed bits width start items
    → NumbersRepresent (options_of old) true (secrets_of_hasher new) after bits width start (items ++ item ∷ []))
    → IsItem (item_of number) → Absorbs old mid item → Absorbs mid new (item_of number) → TurnsWrites old new item number
turns-writes {old = old} {new = new} item number absorb is first second = record {
  secrets = second.secrets ∙ first.secrets;
  in_order = λ start items h. represents-two items _ _ (second.represents start _ (first.represents start items h));
  turned = λ start items h room.
      let before = under (second.secrets ∙ first.secrets) h in
      let we : old.sponge.width ≡ (end_of items).1 = h.bits_are in
      let behind = represents-behind _ true (secrets_of_hasher new) _ _ _ start _ (width_of number) (value_of number) _ _ refl is (omega arith) refl refl (absorb start _ _ _ before) in
      let ahead = represents-behind _ true (secrets_of_hasher new) _ _ _ start items (width_of number) (value_of number) _ _ refl is (omega arith) refl refl before in
      represents-same (represents-two items _ _ (second.represents start _ (first.represents start items h))) (represents-two _ _ _ behind) (represents-two _ _ _ (absorb start _ _ _ ahead));
}
