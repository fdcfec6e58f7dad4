-- A table that is sound and stable decides every word.
use Rattle.std.proofs.Common.{◌≡◌, ℕ, ◌<◌, List, [], ◌∷◌, ◌++◌, Some, None, Option, refl, ap, subst, append-nil, arith}
use Rattle.std.proofs.ByRecursion.{All-append}
use Rattle.model.specs.Symbols.{Symbols}
use Rattle.question.specs.Accepts.{Has, Stands, body_word, under, Accepts, by}
use Rattle.question.specs.Marks.{Rows, cell_of, read_from, Decided}
use Rattle.question.specs.Stable.{TrueOf, Sound, Holds, Stable}
use Rattle.question.proofs.Laid.{held_symbols}
use Rattle.question.specs.declared.clause.Clause.{Clause}

pub read_append : (t w x : List ℕ) (m : ℕ) → read_from t (w ++ x) m ≡ read_from t w (read_from t x m)
read_append t [] x m = refl
read_append t (a ∷ w) x m = ap (λ n. cell_of t n a) (read_append t w x m)

-- what reading a word gives is a mark, and, in a sound table, true of the word
module _ {t : List ℕ} (rows : Rows t) where
  pub read_below : (w : List ℕ) (m : ℕ) → Symbols w → m < 2048 → read_from t w m < 2048
  read_below [] m ok h = h
  read_below (a ∷ w) m ok h = let more = read_below w m ok.1 h in let a16 = ok.0 in rows.below _ (omega arith)

  pub read_true : {cs : List Clause} → Sound cs t → (w x : List ℕ) (m : ℕ) → Symbols w → m < 2048 → TrueOf cs m x → TrueOf cs (read_from t w m) (w ++ x)
  read_true sound [] x m ok h holds = holds
  read_true sound (a ∷ w) x m ok h holds = sound _ a (w ++ x) (read_below w m ok.1 h) ok.0 (read_true sound w x m ok.1 h holds)

pub body_symbols : (c : Clause) → Symbols (body_word c)
body_symbols c = held_symbols c.word

module _ {cs : List Clause} {t : List ℕ} {first : ℕ} {Seen : ℕ → Type 0} (stable : Stable cs t first Seen) where
  read_seen : (x : List ℕ) → Symbols x → Seen (read_from t x first)
  read_seen [] ok = stable.start_seen
  read_seen (a ∷ x) ok = stable.row_seen _ a (read_seen x ok.1) ok.0

  -- a clause whose body holds at x gives its head at symbol·x
  apply : (c : Clause) (x : List ℕ) → Stands c cs → Symbols (under c.symbol x) → Holds t c (read_from t x first) → Has (read_from t (under c.symbol x) first) c.head
  apply c x is ok body = go c.symbol refl ok
    where
      none : (y : List ℕ) → Symbols y → c.symbol ≡ None → Holds t c (read_from t y first) → Has (read_from t y first) c.head
      none [] oky e holds = stable.start c is (rw e tt) (rw e holds)
      none (a ∷ y) oky e holds = stable.row _ (read_seen y oky.1) c is a oky.0 (rw e tt) (rw e holds)

      go : (s : Option ℕ) → c.symbol ≡ s → Symbols (under s x) → Has (read_from t (under s x) first) c.head
      go None e okx = none x okx e body
      go (Some a) e okx = stable.row _ (read_seen x okx.1) c is a okx.0 (rw e refl) (rw e body)

  tail : (s : Option ℕ) (x : List ℕ) → Symbols (under s x) → Symbols x
  tail None x ok = ok
  tail (Some a) x ok = ok.1

  pub complete : (b : ℕ) (y : List ℕ) → Accepts cs b y → Symbols y → Has (read_from t y first) b
  complete b y (by c x is body) ok =
      let okx = tail c.symbol x ok in
      apply c x is ok (λ d h. subst (λ n. Has n d) (read_append t (body_word c) x first) (complete d (body_word c ++ x) (body d h) (All-append (λ a. a < 16) (body_word c) x (body_symbols c) okx)))

pub decided : {cs : List Clause} {t : List ℕ} {first : ℕ} (Seen : ℕ → Type 0) → Rows t → Sound cs t → first < 2048 → TrueOf cs first [] → Stable cs t first Seen → Decided cs t first
decided {cs} {t} {first} Seen rows sound small start stable x ok b =
    (λ h. subst (Accepts cs b) (append-nil x) (read_true rows sound x [] first ok small start b h), λ h. complete stable b x h ok)
