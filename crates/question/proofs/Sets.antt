-- The number of a bit, and sets of numbers.
use Rattle.std.proofs.Common.{◌≡◌, ℕ, ◌*◌, ◌%◌, ◌^◌, ◌<◌, cond, Some, List, [], ◌∷◌, ◌++◌, map, length, sym, refl, ap, ◌∙◌, subst, ⊎_elim, mod-eq_of_lt, one-mul, one-add, arith}
use lib.Bits.{bit_or}
use lib.ListN.{length-map}
use Rattle.std.proofs.lemmas.Nat.{pow_below}
use Rattle.std.specs.List.{position, position_or_len}
use Rattle.std.proofs.lemmas.Bool.{lt-ltb}
use Rattle.std.proofs.lemmas.List.Recursion.{is_position_or_len}
use Rattle.question.specs.Lists.{In, In.here}
use Rattle.question.specs.Horns.{Bit}
use Rattle.question.specs.Bits.{same_bit, place, bit_of}
use Rattle.question.specs.Coding.{SetOf}
use Rattle.question.specs.declared.bits.Slot.{Slot}
use Rattle.question.proofs.Bitsets.{has_one, one_has, none_has, has_or_left, has_or_right, has_or_cases}
use Rattle.question.proofs.Lists.{in_left, in_right, in_either}
use Rattle.question.proofs.Members.{in_one}
use Rattle.question.proofs.Numbered.{place_below}

-- The number of b is the first place of a slot with b.
module _ (b : Bit) where
  pub place_position : (slots : List Slot) → place b (map bit_of slots) ≡ position_or_len (λ s. same_bit b (bit_of s)) slots
  place_position slots = is_position_or_len (λ l. place b (map bit_of l)) (λ s. same_bit b (bit_of s)) refl (λ x xs. ap (cond (same_bit b (bit_of x)) 0) (sym (one-add (place b (map bit_of xs))))) slots

  pub place_found : (slots : List Slot) → In b (map bit_of slots) → position (λ s. same_bit b (bit_of s)) slots ≡ Some (place b (map bit_of slots))
  place_found slots h =
      let e = place_position slots in
      let within : position_or_len (λ s. same_bit b (bit_of s)) slots < length slots = omega (arith, place_below h, length-map slots bit_of, e) in
      rw (lt-ltb _ _ within) (ap Some (sym e))

module _ (all : List Bit) where
  set_one : (b : Bit) → SetOf all (b ∷ []) (2 ^ place b all)
  set_one b m = (λ h. (b, here refl, one_has (place b all) m h), λ r. rw (r.2 ∙ ap (λ d. place d all) (in_one r.1)) (has_one (place b all)))

  pub set_shifted : (b : Bit) (p : ℕ) → p ≡ place b all → p < 11 → SetOf all (b ∷ []) ((1 * 2 ^ p) % 65536)
  set_shifted b p is small =
      let fits = pow_below p 16 (omega arith) in
      let shifted : (1 * 2 ^ p) % 65536 ≡ 2 ^ p = mod-eq_of_lt (omega arith) ∙ one-mul (2 ^ p) in
      subst (SetOf all (b ∷ [])) (sym (shifted ∙ ap (λ x. 2 ^ x) is)) (set_one b)

  pub set_none : SetOf all [] 0
  set_none m = (λ h. absurd (none_has m h), λ r. elim r.1 [ ])

  pub set_or : (bs ds : List Bit) (x y : ℕ) → SetOf all bs x → SetOf all ds y → SetOf all (bs ++ ds) (bit_or x y)
  set_or bs ds x y p q m = (
    λ h. ⊎_elim (λ a. let r = (p m).0 a in (r.0, in_left ds r.1, r.2)) (λ a. let r = (q m).0 a in (r.0, in_right bs r.1, r.2)) (has_or_cases x y m h),
    λ r. ⊎_elim (λ a. has_or_left x y m ((p m).1 (r.0, a, r.2))) (λ a. has_or_right x y m ((q m).1 (r.0, a, r.2))) (in_either bs r.1),
  )
