-- A left side is spelled symbol by symbol.
use Rattle.std.proofs.Common.{◌≡◌, ℕ, ◌+◌, ◌<◌, ◌≤◌, List, [], ◌∷◌, ◌++◌, length, get_or, take, drop, Some, sym, refl, ap, ◌∙◌, ap₂, arith}
use Rattle.std.proofs.lemmas.List.{drop_more, drop_all, take_more, take_at, get_or_push, length_push}
use Rattle.question.specs.Runs.{Word}
use Rattle.question.specs.Horns.{Bit, bit, base, Horn, horn, spelled}
use Rattle.question.specs.declared.clause.Clause.{Clause}
use Rattle.question.specs.Coding.{Adds}
use Rattle.question.proofs.Adding.{Adding, adding_next, adding_end}

module _ (i j : ℕ) (l w : Word) (bs : List Bit) (m : ℕ) where
  -- The clauses from symbol m on.
  abbrev spelled_from : List Horn
  spelled_from = spelled (bit i j (take m l)) (drop m l) w bs

module _ (i j : ℕ) (l : Word) (m : ℕ) where
  -- The clause that reads symbol m, which is not the last.
  abbrev pub reads : Horn
  reads = horn (bit i j (take m l)) (Some (get_or l m 0)) [] (bit i j (take (m + 1) l) ∷ [])

module _ (i j : ℕ) (l w : Word) (bs : List Bit) (m : ℕ) where
  spelled_next : m + 1 < length l → spelled_from i j l w bs m ≡ reads i j l m ∷ spelled_from i j l w bs (m + 1)
  spelled_next less =
      let a = get_or l m 0 in
      ap (λ r. spelled (bit i j (take m l)) r w bs) (drop_more l m 0 (omega arith) ∙ ap (λ r. a ∷ r) (drop_more l (m + 1) 0 less))
      ∙ ap₂ (λ u r. horn (bit i j (take m l)) (Some a) [] (bit i j u ∷ []) ∷ spelled (bit i j u) r w bs) (sym (take_more l m 0 (omega arith))) (sym (drop_more l (m + 1) 0 less))

  spelled_last : m + 1 ≡ length l → spelled_from i j l w bs m ≡ horn (bit i j (take m l)) (Some (get_or l m 0)) w bs ∷ []
  spelled_last e =
      ap (λ r. spelled (bit i j (take m l)) r w bs) (drop_more l m 0 (omega arith) ∙ ap (λ r. get_or l m 0 ∷ r) (drop_all (m + 1) l (omega arith)))

-- Whoever spells the word from symbol m on has spelled the whole.
abbrev pub Spelling : List Bit → ℕ → ℕ → Word → Word → List Clause → ℕ → List Clause → Type 0
Spelling all i j l w before m now = (bs : List Bit) → Adding all (spelled (base i j) l w bs) before (spelled_from i j l w bs m) m now

module _ (all : List Bit) (i j : ℕ) (l w : Word) (before now now' : List Clause) (m : ℕ) (inv : Spelling all i j l w before m now) where
  pub spelling_next : m + 1 < length l → Adds all 1 (reads i j l m ∷ []) now now' → Spelling all i j l w before (m + 1) now'
  spelling_next less p bs = adding_next (inv bs) (reads i j l m ∷ []) _ 1 (m + 1) now' (spelled_next i j l w bs m less) (omega arith) p

  -- The last clause, where the word is `front` and then the symbol x.
  pub spelling_end : (front : Word) (x : ℕ) → l ≡ front ++ x ∷ [] → m ≡ length front → length l ≤ 4 → (bs : List Bit) → Adds all 1 (horn (bit i j front) (Some x) w bs ∷ []) now now' →
      Adds all 4 (spelled (base i j) l w bs) before now'
  spelling_end front x split done short bs p =
      let m_last : m + 1 ≡ length l = omega (arith, ap length split, length_push front x, done) in
      let read : take m l ≡ front = ap (take m) split ∙ take_at front (x ∷ []) m (sym done) in
      let symbol : get_or l m 0 ≡ x = ap (λ l. get_or l m 0) split ∙ get_or_push front x 0 m (sym done) in
      let is : horn (bit i j (take m l)) (Some (get_or l m 0)) w bs ≡ horn (bit i j front) (Some x) w bs = ap₂ (λ u a. horn (bit i j u) (Some a) w bs) read symbol in
      adding_end
      (adding_next (inv bs) (horn (bit i j front) (Some x) w bs ∷ []) [] 1 (m + 1) now' (spelled_last i j l w bs m m_last ∙ ap (λ h. h ∷ []) is) (omega arith) p)
      4 refl (omega arith)
