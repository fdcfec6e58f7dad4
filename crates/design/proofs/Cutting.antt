-- Records cut off a file.
use Rattle.std.proofs.Common.{◌≡◌, ℕ, ◌+◌, ◌-◌, ◌*◌, ◌/◌, ◌%◌, ◌<◌, ◌≤◌, List, [], ◌∷◌, ◌++◌, length, get_or, take, drop, slice_range, sym, refl, ap, ◌∙◌, subst, ap₂, arith}
use Rattle.std.proofs.lemmas.List.{take_rest, drop-drop, length-take-le, take-append-drop}
use Rattle.design.specs.Records.{written, Begins}

-- a header and a tail that is long enough
headed : (t h l : ℕ) (tail : List ℕ) → h < 256 → l < 256 → 256 * h + l ≤ length tail → Begins (t ∷ h ∷ l ∷ tail) t (take (256 * h + l) tail) (drop (256 * h + l) tail)
headed t h l tail p q fits =
    let n : length (take (256 * h + l) tail) ≡ 256 * h + l = length-take-le _ tail fits in
    let high : h ≡ length (take (256 * h + l) tail) / 256 = rw n (omega arith) in
    let low : l ≡ length (take (256 * h + l) tail) % 256 = rw n (omega arith) in
    record {
      short = omega arith;
      split = ap₂ (λ x y. t ∷ x ∷ y ∷ tail) high low ∙ ap (λ x. t ∷ length (take (256 * h + l) tail) / 256 ∷ length (take (256 * h + l) tail) % 256 ∷ x) (sym (take-append-drop (256 * h + l) tail));
    }

begins_as : {xs v v' r r' : List ℕ} {t t' : ℕ} → Begins xs t v r → t ≡ t' → v ≡ v' → r ≡ r' → Begins xs t' v' r'
begins_as b p q s = record { short = subst (λ l. length l < 65536) q b.short; split = b.split ∙ (λ i. written (p i) (q i) ++ s i) }

-- a record, by its header, the bytes after that and the value that is taken off them
begins : (xs : List ℕ) {head tail value : List ℕ} {len : ℕ} → head ≡ take 3 xs → tail ≡ drop 3 xs → length tail + 3 ≡ length xs → get_or head 1 0 < 256 → get_or head 2 0 < 256
    → len ≡ get_or head 1 0 * 256 + get_or head 2 0 → len ≤ length tail → value ≡ slice_range tail 0 len → Begins xs (get_or head 0 0) value (drop len tail)
begins [] h t long p q n fits v = absurd (omega arith)
begins (a ∷ []) h t long p q n fits v = absurd (omega arith)
begins (a ∷ b ∷ []) h t long p q n fits v = absurd (omega arith)
begins (a ∷ b ∷ c ∷ ys) {head} {tail} {value} {len} h t long p q n fits v =
    let high : get_or head 1 0 ≡ b = ap (λ l. get_or l 1 0) h in
    let low : get_or head 2 0 ≡ c = ap (λ l. get_or l 2 0) h in
    let said : len ≡ 256 * b + c = omega arith in
    let said' : len - 0 ≡ 256 * b + c = omega arith in
    begins_as (headed a b c ys (omega arith) (omega arith) (omega (arith, ap length t))) (sym (ap (λ l. get_or l 0 0) h)) (sym (v ∙ ap₂ take said' t)) (sym (ap₂ drop said t))

-- the same in a file from a place on, where `&file[place..]` is read as a `take`
pub taken : (file : List ℕ) (place : ℕ) {head tail value : List ℕ} {len : ℕ} → (head ≡ take 3 (take (length file - place) (drop place file))) × (tail ≡ drop 3 (take (length file - place) (drop place file))) × (length tail + 3 ≡ length (take (length file - place) (drop place file)))
    → get_or head 1 0 < 256 → get_or head 2 0 < 256 → len ≡ get_or head 1 0 * 256 + get_or head 2 0 → len ≤ length tail → value ≡ slice_range tail 0 len
    → Begins (drop place file) (get_or head 0 0) value (drop (place + (3 + len)) file)
taken file place {head} {tail} {value} {len} cut p q n fits v =
    let rest = take_rest file place in
    let left : drop len tail ≡ drop (place + (3 + len)) file = ap (drop len) (cut.1 ∙ ap (drop 3) rest) ∙ drop-drop len 3 (drop place file) ∙ drop-drop (3 + len) place file in
    subst (λ xs. Begins xs (get_or head 0 0) value (drop (place + (3 + len)) file)) rest (begins_as (begins _ cut.0 cut.1 cut.2 p q n fits v) refl refl left)
