-- The records of a head, as the reader takes them.
use Rattle.std.proofs.Common.{◌≡◌, ℕ, ◌+◌, ◌<◌, ◌≤◌, Bool, false, List, [], ◌++◌, length, Some, Ok, Err, Option, unwrap_or, Decides, sym, refl, ap, ◌∙◌, subst, inl, inr, arith, Bor}
use Rattle.std.proofs.lemmas.Bool.Decides.{not_from_Decides}
use Rattle.std.specs.Option.{option_map}
use Rattle.model.specs.declared.keys.KnownKeys.{KnownKeys}
use Rattle.model.specs.declared.orders.Flags.{Flags}
use Rattle.model.specs.declared.orders.Ladder.{Ladder}
use Rattle.model.specs.declared.orders.Pair.{Pair}
use Rattle.design.specs.declared.fault.Fault.TheVariants.{WrongLength}
use Rattle.design.specs.declared.fault.Refusal.{Refusal}
use Rattle.design.specs.declared.records.Reader.{Reader}
use Rattle.design.specs.declared.records.Record.{Record}
use Rattle.design.specs.Records.{written, Begins, Starts}
use Rattle.design.specs.Reading.{unread, Taken}
use Rattle.design.specs.Heads.{stages_bytes, book_bytes, keys_bytes, keys_of, Part, HeadRead, FirstJudged, NoStages, no_tag, other_tag, not_two, NoKeys, not_three}

module _ {before after : Reader} {x : Record} (t : Taken before x after) where
  written_as : {tag : ℕ} {v : List ℕ} → x.tag ≡ tag → x.value.now ≡ v → unread before ≡ written tag v ++ unread after
  written_as p q = t.begins.split ∙ (λ i. written (p i) (q i) ++ unread after)

  pub starts : {tag : ℕ} → x.tag ≡ tag → Starts tag (unread before)
  starts p = (_, written_as p refl)

  pub book_is : x.tag ≡ 2 → Part book_bytes 2 before (Some x.value.now) after
  book_is tag = record {
    shape = written_as tag refl;
    absent = λ e. let z : ◌≡◌ {A = ℕ} 0 1 = cc in absurd (omega arith);
    place = omega (arith, t.on);
  }

  begins_with : {tag : ℕ} → x.tag ≡ tag → Begins (unread before) tag x.value.now (unread after)
  begins_with p = subst (λ n. Begins (unread before) n x.value.now (unread after)) p t.begins

  pub no_stages : x.tag ≡ 1 → (length x.value.now ≡ 2 → ⊥) → NoStages (unread before) WrongLength
  no_stages p long = not_two (begins_with p) long

  pub no_keys : x.tag ≡ 3 → (length x.value.now ≡ 3 → ⊥) → NoKeys (unread before) WrongLength
  no_keys p long = not_three (begins_with p) long

-- A first record that has another tag.
pub bad_first : {bytes v rest : List ℕ} {t place : ℕ} {e : Refusal} → Begins bytes t v rest → FirstJudged t place (Err e) → NoStages bytes e.fault
bad_first {bytes} b (inl h, at) = subst (NoStages bytes) (sym h.2) (other_tag b h.0 h.1)
bad_first {bytes} b (inr h, at) = subst (NoStages bytes) (sym h.1) (no_tag b h.0)

-- The stages, the book and the known keys, one after another, are a head.
module _ (file : List ℕ) (first second third last : Reader) (small : length file ≤ 16384) (whole : unread first ≡ file) (start : first.place ≡ 0) where
  pub whole_head : (order : Pair Ladder Flags) (book : Bor (List ℕ)) (keys : Option KnownKeys) → (unread first ≡ stages_bytes order.0.0 order.1.0 ++ unread second) × (second.place ≡ first.place + 5)
      → (part : Option (List ℕ)) × (book.now ≡ unwrap_or part []) × Part book_bytes 2 second part third → Part keys_bytes 3 third (option_map keys_of keys) last
      → HeadRead file (Ok (record { order = order; pool = (record { 0 = book }, keys); rest = last }))
  whole_head order book keys s b k =
      let stages = stages_bytes order.0.0 order.1.0 in
      let part = b.2 in
      let after = ap (λ l. book_bytes b.0 ++ l) k.shape in (
        record { ladder = order.0.0; flags = order.1.0; book = b.0; keys = option_map keys_of keys; rest = unread last },
        record {
          small = small;
          shape = sym whole ∙ s.0 ∙ ap (λ l. stages ++ l) (part.shape ∙ after);
          no_book = λ none t. part.absent none (subst (Starts 2) (sym (part.shape ∙ (λ i. book_bytes (none i) ++ unread third) ∙ k.shape)) t);
          no_keys = λ none t. k.absent none (subst (Starts 3) (sym (k.shape ∙ (λ i. keys_bytes (none i) ++ unread last))) t);
        },
        record { ladder = refl; flags = refl; book = b.1; keys = refl; rest = refl; place = omega (arith, s.1, part.place, k.place) },
      )

pub short_enough : (file : List ℕ) {r : Bool} → Decides r (16384 < length file) → r ≡ false → length file ≤ 16384
short_enough file d e = omega (arith, not_from_Decides _ d e)
