-- The clauses of a climb accept the words that fit.
use Rattle.std.proofs.Common.{◌≡◌, ℕ, suc, ◌<◌, ◌≤◌, eqb, ltb, ◌↔◌, List, [], ◌∷◌, ◌++◌, length, Some, None, refl, append_assoc, append-nil, arith}
use Rattle.std.proofs.ByRecursion.{All-append, All-from_get_or, All-map}
use Rattle.std.proofs.lemmas.Bool.{cond-true, cond-false, cond_both, eq-eqb, eqb-true, lt-ltb, ltb-true, le-ltb, and_from, and_parts}
use Rattle.std.specs.List.{flat_map, AllByRecursion as All}
use Rattle.question.specs.Lists.{In, In.here, In.there, numbers, between}
use Rattle.question.specs.Runs.{Word, Rule, Climb, rule, no_rule}
use Rattle.question.specs.Rises.{changing, stage, stays_at, staying}
use Rattle.question.specs.Supply.{Fits, Fits.stay, Fits.wait, Fits.apply}
use Rattle.question.specs.Accepts.{under}
use Rattle.question.specs.Horns.{Bit, base, then_read, Horn, horn, Derives, Derives.by, spelled, by_staying, by_waiting, by_applying, served, supplied, horns_for, horns_at, horns}
use Rattle.question.proofs.Lists.{in_left, in_right, in_kept_by, in_joined, map_in, in_numbers}
use Rattle.question.proofs.Members.{in_one, in_get_d, all_in, all_kept_if, all_joined, all_numbers, in_between, all_between}

-- The clauses that spell a word accept it.
module _ (hs : List Horn) where
  only : {x : Word} (b : Bit) → Derives hs b x → (d : Bit) → In d (b ∷ []) → Derives hs d x
  only b r d i = rw (in_one i) r

  spelled_derives : (b : Bit) (l w x : Word) (bs : List Bit) → ((h : Horn) → In h (spelled b l w bs) → In h hs) →
      ((d : Bit) → In d bs → Derives hs d (w ++ x)) → Derives hs b (l ++ x)
  spelled_derives b [] w x bs sub h = by (horn b None w bs) x (sub _ (here refl)) h
  spelled_derives b (a ∷ []) w x bs sub h = by (horn b (Some a) w bs) x (sub _ (here refl)) h
  spelled_derives b (a ∷ c ∷ l) w x bs sub h =
      by (horn b (Some a) [] (then_read b a ∷ [])) ((c ∷ l) ++ x) (sub _ (here refl))
      (only (then_read b a) (spelled_derives (then_read b a) (c ∷ l) w x bs (λ g i. sub g (there i)) h))

module _ (rules : List Rule) (climb : Climb) (supplier : ℕ → ℕ) where
  -- What a bit says.
  abbrev Says : Bit → Word → Type 0
  Says b x = Fits rules climb supplier b.at b.goal (b.begun ++ x)

  abbrev Valid : Horn → Type 0
  Valid h = (x : Word) → ((b : Bit) → In b h.body → Says b (h.word ++ x)) → Says h.head (under h.symbol x)

  valid_says : (hs : List Horn) {b : Bit} {x : Word} → All Valid hs → Derives hs b x → Says b x
  valid_says hs v (by h x i bs) = all_in Valid v i x (λ b k. valid_says hs v (bs b k))

  -- Each clause is valid.

  spelled_valid : (b : Bit) (l w : Word) (bs : List Bit) →
      ((x : Word) → ((d : Bit) → In d bs → Says d (w ++ x)) → Fits rules climb supplier b.at b.goal ((b.begun ++ l) ++ x)) → All Valid (spelled b l w bs)
  spelled_valid b [] w bs h = (λ x k. rw append-nil at (h x k), tt)
  spelled_valid b (a ∷ []) w bs h = (λ x k. rw append_assoc at (h x k), tt)
  spelled_valid b (a ∷ c ∷ l) w bs h =
      (λ x k. rw append_assoc at (k _ (here refl)), spelled_valid (then_read b a) (c ∷ l) w bs (λ x k. rw (append_assoc b.begun (a ∷ []) (c ∷ l)) (h x k)))

  staying_valid : (i j : ℕ) → All Valid (flat_map (by_staying i j) (staying rules (stage rules climb i)))
  staying_valid i j =
      let p = stage rules climb i in
      all_joined (by_staying i j) Valid _ (all_kept_if _ (stays_at p) rules (All-from_get_or _ rules no_rule (λ k listed t.
      let stays = and_parts (eqb (rule rules k).from p) _ t in
      spelled_valid (base i j) _ _ _ (λ x h.
      stay (record { listed = listed; from = eqb-true _ _ stays.0; to = eqb-true _ _ stays.1 }) (record { rest = x; before = refl; after = refl }) (h _ (here refl))))))

  served_in : (j k : ℕ) → j < k → k < length climb → supplier k ≡ suc j → In (base (suc j) k) (served supplier (length climb) j)
  served_in j k later less e = map_in (base (suc j)) (in_kept_by _ (in_between k (suc j) _ later less) (eq-eqb _ _ e))

  applying_valid : (j : ℕ) → All Valid (by_applying j (changing rules climb j) (served supplier (length climb) j))
  applying_valid j = spelled_valid (base j j) _ _ _ (λ x h. apply (record { rest = x; before = refl; after = refl }) (λ k later less e. h _ (served_in j k later less e)))

  horns_valid : All Valid (horns rules climb supplier)
  horns_valid =
      let n = length climb in
      all_joined (horns_at rules climb supplier) Valid (numbers 0 n) (all_numbers _ 0 n (λ i low high.
      all_joined (horns_for rules climb supplier i) Valid (between i n) (all_between _ i n (λ j le less.
      All-append Valid (flat_map (by_staying i j) (staying rules (stage rules climb i))) _ (staying_valid i j)
      (cond_both (ltb i j) _ _ (All Valid) (λ t. (λ x h. wait (ltb-true i j t) (h _ (here refl)), tt)) (λ n. applying_valid j))))))

  -- Each word that fits is accepted.

  for_in : {h : Horn} (i j : ℕ) → i ≤ j → j < length climb → In h (horns_for rules climb supplier i j) → In h (horns rules climb supplier)
  for_in i j le less h = let n = length climb in in_joined _ (in_numbers i 0 n (omega arith) (omega arith)) (in_joined _ (in_between j i n le less) h)

  served_all : (X : Bit → Type 0) (j : ℕ) → ((k : ℕ) → j < k → k < length climb → supplier k ≡ suc j → X (base (suc j) k)) → All X (served supplier (length climb) j)
  served_all X j h =
      let n = length climb in
      All-map X (base (suc j)) (supplied supplier n j)
      (all_kept_if _ (λ k. eqb (supplier k) (suc j)) (between (suc j) n) (all_between _ (suc j) n (λ k later less t. h k later less (eqb-true _ _ t))))

  fits_derives : {i j : ℕ} {w : Word} → Fits rules climb supplier i j w → i ≤ j → j < length climb → Derives (horns rules climb supplier) (base i j) w
  fits_derives (stay {i} {j} {k} leads makes f) le less =
      let hs = horns rules climb supplier in
      let stays = and_from _ _ (eq-eqb _ _ leads.from) (eq-eqb _ _ leads.to) in
      rw makes.before (spelled_derives hs (base i j) (rule rules k).left (rule rules k).right makes.rest (base i j ∷ [])
      (λ h m. for_in i j le less (in_left _ (in_joined (by_staying i j) (in_kept_by (stays_at (stage rules climb i)) (in_get_d no_rule rules k leads.listed refl) stays) m)))
      (only hs (base i j) (rw makes.after at (fits_derives f le less))))
  fits_derives (wait {i} {j} {w} h f) le less =
      let hs = horns rules climb supplier in
      by (horn (base i j) None [] (base (suc i) j ∷ [])) w
      (for_in i j le less (in_right (flat_map (by_staying i j) (staying rules (stage rules climb i))) (rw (cond-true (ltb i j) (by_waiting i j) _ (lt-ltb i j h)) (here refl))))
      (only hs (base (suc i) j) (fits_derives f h less))
  fits_derives (apply {j} makes f) le less =
      let hs = horns rules climb supplier in
      let X : Bit → Type 0 = λ d. Derives hs d ((changing rules climb j).right ++ makes.rest) in
      rw makes.before (spelled_derives hs (base j j) (changing rules climb j).left (changing rules climb j).right makes.rest (served supplier (length climb) j)
      (λ h m. for_in j j le less (in_right (flat_map (by_staying j j) (staying rules (stage rules climb j))) (rw (cond-false (ltb j j) (by_waiting j j) _ (le-ltb j j (omega arith))) m)))
      (λ b m. all_in X (served_all X j (λ k later kn e. rw makes.after at (fits_derives (f k later kn e) later kn))) m))

  pub derives_fits : (i j : ℕ) (w : Word) → i ≤ j → j < length climb → Derives (horns rules climb supplier) (base i j) w ↔ Fits rules climb supplier i j w
  derives_fits i j w le less = (valid_says (horns rules climb supplier) horns_valid, λ f. fits_derives f le less)
