-- A file has one head, or one reason to have none.
use Rattle.std.proofs.Common.{◌≡◌, ℕ, ◌+◌, ◌/◌, ◌%◌, ◌<◌, ◌≤◌, List, [], ◌∷◌, ◌++◌, length, Some, None, Ok, Err, Option, Result, unwrap_or, sym, refl, ap, ◌∙◌, subst, ap₂, ⊎_elim, arith, length-append}
use Rattle.design.specs.declared.fault.Fault.{Fault}
use Rattle.design.specs.declared.fault.Refusal.{Refusal}
use Rattle.design.specs.declared.head.Head.{Head}
use Rattle.design.specs.Faults.{number}
use Rattle.design.specs.HeadLaws.{OneAnswer}
use Rattle.design.specs.Heads.{Keys, stages_bytes, book_bytes, keys_bytes, Parts, Headed, Holds, HeadRead, NoStages, none_left, cut_stages, no_tag, other_tag, not_two, NoKeys, cut_keys, not_three, NoHead, too_large, at_stages, at_book, at_keys}
use Rattle.design.specs.Lines.{stages_line, stop_line}
use Rattle.design.specs.Records.{written, Begins, CutShort, Starts}
use Rattle.design.specs.Reports.{stages_of, no_head, headed, OneReport}
use Rattle.design.proofs.Begun.{one_begins, not_cut, not_nil}

-- the head's first record
first : (ladder flags : ℕ) (rest : List ℕ) {file : List ℕ} → file ≡ stages_bytes ladder flags ++ rest → Begins file 1 (ladder ∷ flags ∷ []) rest
first ladder flags rest e = record { short = omega arith; split = e }

stages_there : {file : List ℕ} {f : Fault} (ladder flags : ℕ) (rest : List ℕ) → file ≡ stages_bytes ladder flags ++ rest → NoStages file f → ⊥
stages_there ladder flags rest e (none_left n) = not_nil (first ladder flags rest e) n
stages_there ladder flags rest e (cut_stages c) = not_cut (first ladder flags rest e) c
stages_there ladder flags rest e (no_tag b h) = let t = (one_begins b (first ladder flags rest e)).0 in ⊎_elim (λ a. omega arith) (λ a. omega arith) h
stages_there ladder flags rest e (other_tag b h k) = let t = (one_begins b (first ladder flags rest e)).0 in omega arith
stages_there ladder flags rest e (not_two b h) = h (ap length (one_begins b (first ladder flags rest e)).1)

same_no_stages : {file : List ℕ} {f f' : Fault} → NoStages file f → NoStages file f' → f ≡ f'
same_no_stages (none_left n) (none_left n') = refl
same_no_stages (none_left n) (cut_stages c) = refl
same_no_stages (none_left n) (no_tag b h) = absurd (not_nil b n)
same_no_stages (none_left n) (other_tag b h k) = absurd (not_nil b n)
same_no_stages (none_left n) (not_two b h) = absurd (not_nil b n)
same_no_stages (cut_stages c) (none_left n) = refl
same_no_stages (cut_stages c) (cut_stages c') = refl
same_no_stages (cut_stages c) (no_tag b h) = absurd (not_cut b c)
same_no_stages (cut_stages c) (other_tag b h k) = absurd (not_cut b c)
same_no_stages (cut_stages c) (not_two b h) = absurd (not_cut b c)
same_no_stages (no_tag b h) (none_left n) = absurd (not_nil b n)
same_no_stages (no_tag b h) (cut_stages c) = absurd (not_cut b c)
same_no_stages (no_tag b h) (no_tag b' h') = refl
same_no_stages (no_tag b h) (other_tag b' k l) = let t = (one_begins b b').0 in absurd (⊎_elim (λ a. omega arith) (λ a. omega arith) h)
same_no_stages (no_tag b h) (not_two b' k) = let t = (one_begins b b').0 in absurd (⊎_elim (λ a. omega arith) (λ a. omega arith) h)
same_no_stages (other_tag b k l) (none_left n) = absurd (not_nil b n)
same_no_stages (other_tag b k l) (cut_stages c) = absurd (not_cut b c)
same_no_stages (other_tag b k l) (no_tag b' h) = let t = (one_begins b b').0 in absurd (⊎_elim (λ a. omega arith) (λ a. omega arith) h)
same_no_stages (other_tag b k l) (other_tag b' k' l') = refl
same_no_stages (other_tag b k l) (not_two b' h) = let t = (one_begins b b').0 in absurd (omega arith)
same_no_stages (not_two b k) (none_left n) = absurd (not_nil b n)
same_no_stages (not_two b k) (cut_stages c) = absurd (not_cut b c)
same_no_stages (not_two b k) (no_tag b' h) = let t = (one_begins b b').0 in absurd (⊎_elim (λ a. omega arith) (λ a. omega arith) h)
same_no_stages (not_two b k) (other_tag b' h l) = let t = (one_begins b b').0 in absurd (omega arith)
same_no_stages (not_two b k) (not_two b' k') = refl

same_book : (b b' : Option (List ℕ)) (y y' : List ℕ) → length (unwrap_or b []) < 65536 → length (unwrap_or b' []) < 65536 → book_bytes b ++ y ≡ book_bytes b' ++ y' → (b ≡ None → Starts 2 y → ⊥) → (b' ≡ None → Starts 2 y' → ⊥) → (b ≡ b') × (y ≡ y')
same_book None None y y' f f' e n n' = (refl, e)
same_book None (Some x) y y' f f' e n n' = absurd (n refl (_, e))
same_book (Some x) None y y' f f' e n n' = absurd (n' refl (_, sym e))
same_book (Some x) (Some x') y y' f f' e n n' =
    let same = one_begins {t = 2} {t' = 2} {v = x} {v' = x'} {r = y} {r' = y'} (record { short = f; split = refl }) (record { short = f'; split = e }) in
    (ap Some same.1, same.2)

same_keys : (k k' : Option Keys) (y y' : List ℕ) → keys_bytes k ++ y ≡ keys_bytes k' ++ y' → (k ≡ None → Starts 3 y → ⊥) → (k' ≡ None → Starts 3 y' → ⊥) → (k ≡ k') × (y ≡ y')
same_keys None None y y' e n n' = (refl, e)
same_keys None (Some x) y y' e n n' = absurd (n refl (_, e))
same_keys (Some x) None y y' e n n' = absurd (n' refl (_, sym e))
same_keys (Some x) (Some x') y y' e n n' =
    let high : x.0 / 256 ≡ x'.0 / 256 = cc in
    let low : x.0 % 256 ≡ x'.0 % 256 = cc in
    let end_is : x.1 ≡ x'.1 = cc in
    let rest : y ≡ y' = cc in
    let set_is : x.0 ≡ x'.0 = omega arith in
    (λ i. Some (set_is i, end_is i), rest)

-- two readings of the stages leave the same rest
same_rest : {file : List ℕ} (l k l' k' : ℕ) (r r' : List ℕ) → file ≡ stages_bytes l k ++ r → file ≡ stages_bytes l' k' ++ r' → (l ≡ l') × (k ≡ k') × (r ≡ r')
same_rest l k l' k' r r' e e' = let a : l ≡ l' = cc in let b : k ≡ k' = cc in let c : r ≡ r' = cc in (a, b, c)

-- a book is shorter than its file
book_fits : {file : List ℕ} (l k : ℕ) (b : Option (List ℕ)) (r : List ℕ) → length file ≤ 16384 → file ≡ stages_bytes l k ++ (book_bytes b ++ r) → length (unwrap_or b []) < 65536
book_fits l k None r small e = omega arith
book_fits l k (Some x) r small e = omega (arith, ap length e, length-append x r)

two_not_three : {y : List ℕ} → Starts 3 y → Starts 2 y → ⊥
two_not_three a b = let p = a.1 in let q = b.1 in let z : ◌≡◌ {A = ℕ} 3 2 = cc in omega arith

-- bytes that begin with a book's record
book_begins : {y : List ℕ} (x r : List ℕ) → length x < 65536 → y ≡ written 2 x ++ r → Begins y 2 x r
book_begins x r f e = record { short = f; split = e }

keys_begin : {y : List ℕ} (x : Keys) (r : List ℕ) → y ≡ keys_bytes (Some x) ++ r → Begins y 3 (x.0 / 256 ∷ x.0 % 256 ∷ x.1 ∷ []) r
keys_begin x r e = record { short = omega arith; split = e }

keys_there : {y : List ℕ} {f : Fault} (k : Option Keys) (r : List ℕ) → (k ≡ None → Starts 3 r → ⊥) → y ≡ keys_bytes k ++ r → Starts 3 y → NoKeys y f → ⊥
keys_there None r n e s h = n refl (subst (Starts 3) e s)
keys_there (Some x) r n e s (cut_keys c) = not_cut (keys_begin x r e) c
keys_there (Some x) r n e s (not_three b h) = h (ap length (one_begins b (keys_begin x r e)).1)

same_no_keys : {y : List ℕ} {f f' : Fault} → NoKeys y f → NoKeys y f' → f ≡ f'
same_no_keys (cut_keys c) (cut_keys c') = refl
same_no_keys (cut_keys c) (not_three b h) = absurd (not_cut b c)
same_no_keys (not_three b h) (cut_keys c) = absurd (not_cut b c)
same_no_keys (not_three b h) (not_three b' h') = refl

-- no head where there is a head
book_there : {y : List ℕ} (b : Option (List ℕ)) (r : List ℕ) → length (unwrap_or b []) < 65536 → (b ≡ None → Starts 2 r → ⊥) → y ≡ book_bytes b ++ r → Starts 2 y → CutShort y → ⊥
book_there None r f n e s c = n refl (subst (Starts 2) e s)
book_there (Some x) r f n e s c = not_cut (book_begins x r f e) c

no_both : {file : List ℕ} {f : Fault} {place : ℕ} (p : Parts) → NoHead file f place → Headed file p → ⊥
no_both p (too_large h e _) g = omega (arith, g.small)
no_both p (at_stages h n _) g = stages_there p.ladder p.flags _ g.shape n
no_both p (at_book h l k r e s c f _) g =
    let same = same_rest l k p.ladder p.flags r _ e g.shape in
    book_there p.book _ (book_fits p.ladder p.flags p.book _ g.small g.shape) g.no_book same.2 s c
no_both p (at_keys h l k b r e s n _) g =
    let same = same_rest l k p.ladder p.flags (book_bytes b ++ r) _ e g.shape in
    let books = same_book b p.book r _ (book_fits l k b r h e) (book_fits p.ladder p.flags p.book _ g.small g.shape) same.2 (λ none. two_not_three s) g.no_book in
    keys_there p.keys p.rest g.no_keys books.1 s n

book_then_keys : {y : List ℕ} (b : Option (List ℕ)) (r : List ℕ) → length (unwrap_or b []) < 65536 → y ≡ book_bytes b ++ r → Starts 2 y → CutShort y → Starts 3 r → ⊥
book_then_keys b r f e s c t = book_there b r f (λ none. two_not_three t) e s c

same_no_head : {file : List ℕ} {f f' : Fault} {place place' : ℕ} → NoHead file f place → NoHead file f' place' → (f ≡ f') × (place ≡ place')
same_no_head (too_large h e p) (too_large h' e' p') = (e ∙ sym e', p ∙ sym p')
same_no_head (too_large h e p) (at_stages h' n p') = absurd (omega arith)
same_no_head (too_large h e p) (at_book h' l k r x s c y p') = absurd (omega arith)
same_no_head (too_large h e p) (at_keys h' l k b r x s n p') = absurd (omega arith)
same_no_head (at_stages h n p) (too_large h' e p') = absurd (omega arith)
same_no_head (at_stages h n p) (at_stages h' n' p') = (same_no_stages n n', p ∙ sym p')
same_no_head (at_stages h n p) (at_book h' l k r x s c y p') = absurd (stages_there l k r x n)
same_no_head (at_stages h n p) (at_keys h' l k b r x s m p') = absurd (stages_there l k (book_bytes b ++ r) x n)
same_no_head (at_book h l k r x s c y p) (too_large h' e p') = absurd (omega arith)
same_no_head (at_book h l k r x s c y p) (at_stages h' n p') = absurd (stages_there l k r x n)
same_no_head (at_book h l k r x s c y p) (at_book h' l' k' r' x' s' c' y' p') = (y ∙ sym y', p ∙ sym p')
same_no_head (at_book h l k r x s c y p) (at_keys h' l' k' b' r' x' s' n p') =
    absurd (book_then_keys b' r' (book_fits l' k' b' r' h' x') (same_rest l k l' k' r (book_bytes b' ++ r') x x').2 s c s')
same_no_head (at_keys h l k b r x s n p) (too_large h' e p') = absurd (omega arith)
same_no_head (at_keys h l k b r x s n p) (at_stages h' m p') = absurd (stages_there l k (book_bytes b ++ r) x m)
same_no_head (at_keys h l k b r x s n p) (at_book h' l' k' r' x' s' c y p') =
    absurd (book_then_keys b r (book_fits l k b r h x) (same_rest l' k' l k r' (book_bytes b ++ r) x' x).2 s' c s)
same_no_head {f'} (at_keys h l k b r x s n p) (at_keys h' l' k' b' r' x' s' n' p') =
    let same = same_rest l k l' k' (book_bytes b ++ r) (book_bytes b' ++ r') x x' in
    let books = same_book b b' r r' (book_fits l k b r h x) (book_fits l' k' b' r' h' x') same.2 (λ none. two_not_three s) (λ none. two_not_three s') in
    (same_no_keys n (subst (λ y. NoKeys y f') (sym books.1) n'), p ∙ ap (λ o. 5 + length (book_bytes o)) books.0 ∙ sym p')

one_head : {file : List ℕ} (p q : Parts) → Headed file p → Headed file q → p ≡ q
one_head p q g h =
    let same = same_rest p.ladder p.flags q.ladder q.flags _ _ g.shape h.shape in
    let books = same_book p.book q.book _ _ (book_fits p.ladder p.flags p.book _ g.small g.shape) (book_fits q.ladder q.flags q.book _ h.small h.shape) same.2 g.no_book h.no_book in
    let keys = same_keys p.keys q.keys p.rest q.rest books.1 g.no_keys h.no_keys in
    λ i. record { ladder = same.0 i; flags = same.1 i; book = books.0 i; keys = keys.0 i; rest = keys.1 i }

pub one_answer : (file : List ℕ) (r : Result Head Refusal) → HeadRead file r → HeadRead file r × OneAnswer file r
one_answer file (Ok h) a = (a, (λ p g. subst (Holds h) (one_head a.0 p a.1 g) a.2, λ f place n. no_both a.0 n a.1))
one_answer file (Err e) a = (a, (λ p g. no_both p a g, λ f place n. same_no_head n a))

pub one_report : (file : List ℕ) → OneReport file
one_report file out out' (no_head f p h e) (no_head f' p' h' e') =
    let same = same_no_head h h' in
    e ∙ ap₂ (λ g q. stop_line (number g) q) same.0 same.1 ∙ sym e'
one_report file out out' (no_head f p h e) (headed q g e') = absurd (no_both q h g)
one_report file out out' (headed q g e) (no_head f p h e') = absurd (no_both q h g)
one_report file out out' (headed p g e) (headed q h e') = e ∙ ap (λ x. stages_line (stages_of x.ladder x.flags)) (one_head p q g h) ∙ sym e'
