-- The bytes of a reader, read by read, and the hash of them.
use Rattle.std.proofs.Common.{◌≡◌, ℕ, ◌+◌, ◌-◌, ◌*◌, ◌≤◌, ◌<◌, Bool, false, List, [], ◌++◌, Option, Result, Ok, Err, length, replicate, refl, sym, ap, subst, ◌∙◌, append_assoc, arith, length-append}
use Rattle.std.proofs.KnownBytes.{Consumes-nil, Consumes-trans, Consumes-whole}
use Rattle.std.proofs.lemmas.Bool.{false≢true, true≢false}
use Rattle.std.proofs.lemmas.List.{append-nil, nil_from_length}
use Rattle.std.specs.Io.KnownBytes.{Consumes}
use Rattle.std.specs.declared.io.Error.{Error}
use Rattle.std.specs.declared.io.ErrorKind.TheVariants.{UnexpectedEof}
use Rattle.rapidhash_portable.specs.declared.reader.Stop.{Stop}
use Rattle.rapidhash_portable.specs.declared.reader.Stop.TheVariants.{Ended, Failed}
use Rattle.rapidhash_portable.specs.Folded.{PrefixIsFolded}
use Rattle.rapidhash_portable.specs.Reading.{FellShort, FlagsFailures, FrontIsFolded, HashesAll, HashesKnown}
use Rattle.rapidhash_portable.specs.Source.{Settles}
use Rattle.rapidhash_portable.specs.Words.{last_16}
use Rattle.rapidhash_portable.proofs.BytesLemmas.{word64-drop}
use Rattle.rapidhash_portable.proofs.FoldedLemmas.{PrefixIsFolded-all, PrefixIsFolded-append, PrefixIsFolded-left, PrefixIsFolded-none}
use Rattle.rapidhash_portable.proofs.LanesLemmas.{rows_are}

-- ---- a front that is folded

-- nothing was read yet
pub FrontIsFolded-none : (protected : Bool) (secrets : List ℕ) (old : Option (List ℕ)) (lanes seed : ℕ) →
    FrontIsFolded protected secrets old old 0 lanes seed (replicate lanes seed) []
FrontIsFolded-none protected secrets old lanes seed = record {
  bytes = [];
  taken = Consumes-nil old;
  count = refl;
  prefix = PrefixIsFolded-none (omega arith);
}

-- where a prefix of whole rows goes on over whole rows, nothing is left
all_folded : {protected : Bool} {secrets x : List ℕ} {lanes : ℕ} {starts held held' rest : List ℕ} (y : List ℕ) (more : ℕ) →
    PrefixIsFolded protected secrets x lanes 0 starts held [] → PrefixIsFolded protected secrets (x ++ y) lanes 0 starts held' rest →
    length y ≡ 16 * (lanes * more) → length rest < 16 * lanes → rest ≡ []
all_folded {x = x} {lanes = lanes} {rest = rest} y more f g size few =
    let before = PrefixIsFolded-left f in
    let after = PrefixIsFolded-left g in
    let total = length-append x y in
    let rows = PrefixIsFolded-all g (omega arith) in
    let rows' = rows_are lanes 0 (f.rows + more) 0 (length (x ++ y)) (omega arith) (omega arith) (omega arith) in
    let same : 16 * (lanes * g.rows) ≡ 16 * (lanes * (f.rows + more)) = ap (λ k. 16 * (lanes * k)) (sym rows ∙ rows') in
    nil_from_length rest (omega arith)

-- a piece of whole rows more
pub FrontIsFolded-more : {protected : Bool} {secrets : List ℕ} {old now : Option (List ℕ)} {len lanes seed : ℕ} {held : List ℕ}
    (f : FrontIsFolded protected secrets old now len lanes seed held []) (new : Option (List ℕ)) (piece held' rest : List ℕ) (more len' : ℕ) →
    Consumes now new piece → length piece ≡ 16 * (lanes * more) → len' ≡ len + length piece → length rest < 16 * lanes →
    PrefixIsFolded protected secrets (f.bytes ++ piece) lanes 0 (replicate lanes seed) held' rest →
    FrontIsFolded protected secrets old new len' lanes seed held' []
FrontIsFolded-more f new piece held' rest more len' took size e few g =
    let none = all_folded piece more f.prefix g size few in
    record {
      bytes = f.bytes ++ piece;
      taken = Consumes-trans _ _ _ _ _ f.taken took;
      count = omega (arith, f.count, length-append f.bytes piece);
      prefix = rw none at g;
    }

-- the last bytes, which are folded no more
pub FrontIsFolded-last : {protected : Bool} {secrets : List ℕ} {old now : Option (List ℕ)} {len lanes seed : ℕ} {held : List ℕ} →
    FrontIsFolded protected secrets old now len lanes seed held [] → (new : Option (List ℕ)) (last : List ℕ) (len' : ℕ) →
    Consumes now new last → len' ≡ len + length last → FrontIsFolded protected secrets old new len' lanes seed held last
FrontIsFolded-last f new last len' took e = record {
  bytes = f.bytes ++ last;
  taken = Consumes-trans _ _ _ _ _ f.taken took;
  count = omega (arith, f.count, length-append f.bytes last);
  prefix = PrefixIsFolded-append f.prefix last;
}

-- the tail ends in the last 16 bytes
pub last_16-front : {protected : Bool} {secrets : List ℕ} {old new : Option (List ℕ)} {len lanes seed : ℕ} {held tail : List ℕ}
    (f : FrontIsFolded protected secrets old new len lanes seed held tail) → 16 ≤ length tail → last_16 tail ≡ last_16 f.bytes
last_16-front {lanes = lanes} {tail = tail} f some =
    let n = 16 * (lanes * f.prefix.rows) in
    let size = PrefixIsFolded-left f.prefix in
    let first : n + (length tail - 16) ≡ length f.bytes - 16 = omega arith in
    let second : n + (length tail - 8) ≡ length f.bytes - 8 = omega arith in
    cc (f.prefix.rest_is, word64-drop f.bytes n (length tail - 16), word64-drop f.bytes n (length tail - 8), first, second)

-- the reader ends behind a front
pub FellShort-front : {protected : Bool} {secrets : List ℕ} {old now : Option (List ℕ)} {len lanes seed : ℕ} {held tail : List ℕ} →
    FrontIsFolded protected secrets old now len lanes seed held tail → {new : Option (List ℕ)} {size len' : ℕ} {failed : Bool} →
    FellShort now new size failed → len + size ≤ len' → FellShort old new len' failed
FellShort-front f s h = record {
  bytes = f.bytes ++ s.bytes;
  taken = Consumes-trans _ _ _ _ _ f.taken s.taken;
  count = omega (arith, f.count, s.count, length-append f.bytes s.bytes);
  all = s.all;
}

-- ---- the hash of the next bytes

-- a source's result from that of a hash
pub FlagsFailures-settles : (answer : Result ℕ Stop) (result : Result ℕ Error) (flag : Bool) →
    Settles answer result false flag → FlagsFailures result flag UnexpectedEof
FlagsFailures-settles (Ok h) result flag settled = rw (settled.0, settled.1) (record { clean = refl; kind_is = tt })
FlagsFailures-settles (Err (Failed read)) (Ok h) flag settled = absurd (false≢true settled.0)
FlagsFailures-settles (Err (Failed read)) (Err e) flag settled = rw (settled.1) (record { clean = tt; kind_is = λ off. absurd (true≢false off) })
FlagsFailures-settles (Err Ended) (Ok h) flag settled = absurd settled.0
FlagsFailures-settles (Err Ended) (Err e) flag settled = record { clean = tt; kind_is = λ _. settled.0 }

-- ---- all bytes

-- bytes were read, at least one per iteration: `Represents` holds for those before the last, which are kept
pub record HaveRead (old now : Option (List ℕ)) (Represents : List ℕ → Type 0) (kept : List ℕ) (turn : ℕ) : Type 0 where
  pub front : List ℕ
  pub taken : Consumes old now (front ++ kept)
  pub represents : Represents front
  pub some : turn ≤ length (front ++ kept)

-- a read more, whose bytes are kept
pub HaveRead-more : {old now : Option (List ℕ)} {Represents : List ℕ → Type 0} {kept : List ℕ} {turn : ℕ} →
    HaveRead old now Represents kept turn → (new : Option (List ℕ)) (piece : List ℕ) →
    Consumes now new piece → 0 < length piece → HaveRead old new Represents (kept ++ piece) (turn + 1)
HaveRead-more {kept = kept} h new piece took some =
    let joined = append_assoc h.front kept piece in
    record {
      front = h.front;
      taken = subst (Consumes _ _) joined (Consumes-trans _ _ _ _ _ h.taken took);
      represents = h.represents;
      some = omega (arith, h.some, ap length joined, length-append (h.front ++ kept) piece);
    }

-- the kept bytes are added to the represented ones
pub HaveRead-added : {old now : Option (List ℕ)} {Represents : List ℕ → Type 0} {kept : List ℕ} {turn : ℕ} (Represents' : List ℕ → Type 0) →
    HaveRead old now Represents kept turn → ((x : List ℕ) → Represents x → Represents' (x ++ kept)) → HaveRead old now Represents' [] turn
HaveRead-added {kept = kept} Represents' h adds = let all = append-nil (h.front ++ kept) in record {
  front = h.front ++ kept;
  taken = subst (Consumes _ _) (sym all) h.taken;
  represents = adds h.front h.represents;
  some = omega (arith, h.some, ap length all);
}

-- all known bytes were read
pub HashesAll-known : {E : Type 0} {old new : Option (List ℕ)} (result : Result ℕ E) {failed : E → Bool} {hash : List ℕ → ℕ} →
    HashesAll old new result failed hash → HashesKnown old result hash
HashesAll-known (Ok h) {hash = hash} all = Consumes-whole _ _ all.bytes (λ x. h ≡ hash x) all.taken all.ok.1 all.ok.0
HashesAll-known (Err e) all = tt
