-- Bytes begin with one record only, and what begins with a record is not cut.
use Rattle.std.proofs.Common.{◌≡◌, ℕ, ◌+◌, ◌/◌, ◌%◌, List, [], ◌++◌, length, take, drop, sym, refl, ap, ◌∙◌, arith, length-append}
use Rattle.std.proofs.lemmas.List.{take_at, drop_at}
use Rattle.design.specs.Records.{Begins, CutShort, said}

pub same_front : (v v' r r' : List ℕ) → length v ≡ length v' → v ++ r ≡ v' ++ r' → (v ≡ v') × (r ≡ r')
same_front v v' r r' n e = (
  sym (take_at v r (length v) refl) ∙ ap (take (length v)) e ∙ take_at v' r' (length v) (sym n),
  sym (drop_at v r (length v) refl) ∙ ap (drop (length v)) e ∙ drop_at v' r' (length v) (sym n),
)

pub one_begins : {bs : List ℕ} {t t' : ℕ} {v v' r r' : List ℕ} → Begins bs t v r → Begins bs t' v' r' → (t ≡ t') × (v ≡ v') × (r ≡ r')
one_begins {bs} {t} {t'} {v} {v'} {r} {r'} a b =
    let p = a.split in
    let q = b.split in
    let tag : t ≡ t' = cc in
    let high : length v / 256 ≡ length v' / 256 = cc in
    let low : length v % 256 ≡ length v' % 256 = cc in
    let body : v ++ r ≡ v' ++ r' = cc in
    let parts = same_front v v' r r' (omega arith) body in
    (tag, parts.0, parts.1)

-- A record takes three bytes and its value.
pub begins_long : {bs v r : List ℕ} {t : ℕ} → Begins bs t v r → length bs ≡ 3 + (length v + length r)
begins_long {bs} {v} {r} b = let long = length-append v r in omega (arith, ap length b.split)

pub not_cut : {bs v r : List ℕ} {t : ℕ} → Begins bs t v r → CutShort bs → ⊥
not_cut {bs} {v} {r} b c = omega (arith, begins_long b, ap said b.split, c.few)

pub not_nil : {bs v r : List ℕ} {t : ℕ} → Begins bs t v r → bs ≡ [] → ⊥
not_nil b e = omega (arith, begins_long b, ap length e)
