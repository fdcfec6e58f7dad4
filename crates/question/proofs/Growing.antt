-- What a clause adds to a value.
use Rattle.std.proofs.Common.{◌≡◌, ℕ, ◌^◌, ◌<◌, List, Some, None, Option, sym, refl, ◌∙◌, subst, inl, inr, ⊎_elim}
use lib.Bits.{bit_or}
use Rattle.question.specs.Accepts.{Stands, body_word, under, Accepts, by}
use Rattle.question.specs.Marks.{Rows}
use Rattle.question.specs.Stable.{TrueOf, Sound, Holds, Fit, beneath, Grown}
use Rattle.question.proofs.Bitsets.{or_more, has_or_right, has_or_cases, has_one, one_has}
use Rattle.question.proofs.Deciding.{read_true, body_symbols}
use Rattle.question.specs.declared.clause.Clause.{Clause}

pub grown_add : {t : List ℕ} {c : Clause} {from old : ℕ} → Holds t c from → Grown t c from old (bit_or old (2 ^ c.head))
grown_add {c = c} {old = old} holds =
    let bit = 2 ^ c.head in
    record {
      more = or_more old bit;
      right = λ b h. ⊎_elim inl (λ one. inr (one_has c.head b one, holds)) (has_or_cases old bit b h);
      settled = λ _. has_or_right old bit c.head (has_one c.head);
    }

-- what a clause adds to a place is true there
module _ {cs : List Clause} {t : List ℕ} {c : Clause} {m : ℕ} (p : Option ℕ) {v : ℕ} (rows : Rows t) (small : m < 2048) (low : v < 2048) (sound : Sound cs t) (is : Stands c cs) where
  holds_true : (x : List ℕ) → TrueOf cs m x → TrueOf cs v (under p x) → Fit c.symbol p → Holds t c (beneath c.symbol m v) → Accepts cs c.head (under p x)
  holds_true x here there = go c.symbol refl
    where
      go : (s : Option ℕ) → c.symbol ≡ s → Fit s p → Holds t c (beneath s m v) → Accepts cs c.head (under p x)
      go None e fit holds = subst (λ s. Accepts cs c.head (under s (under p x))) e (by c (under p x) is (λ b h. read_true rows sound (body_word c) (under p x) v (body_symbols c) low there b (holds b h)))
      go (Some a) e fit holds = subst (λ s. Accepts cs c.head (under s x)) (e ∙ sym fit) (by c x is (λ b h. read_true rows sound (body_word c) x m (body_symbols c) small here b (holds b h)))

  pub grown_true : {new : ℕ} → Fit c.symbol p → Grown t c (beneath c.symbol m v) v new → (x : List ℕ) → TrueOf cs m x → TrueOf cs v (under p x) → TrueOf cs new (under p x)
  grown_true fit g x here there b h =
      ⊎_elim (there b) (λ one. subst (λ n. Accepts cs n (under p x)) (sym one.0) (holds_true x here there fit one.1)) (g.right b h)
