-- Laws of the station in its place: one digit and SP, or two digits and SP, and nothing else.
use Prim.Native.Nat.{ℕ, zero, suc, ◌+◌, ◌-◌, ◌*◌, ◌≤◌, ◌<◌}
use mathlib.Core.Path.{◌≡◌, refl, sym, ◌∙◌}
use mathlib.Core.Bool.{Bool, true, false, cond, ◌&&◌}
use mathlib.Core.List.{List, [], ◌∷◌}
use Rattle.std.specs.Prelude.{Option, None}
use native.Mathlib.Omega.{arith}
use lib.Arith.{lt_of_le-ne}
use borrow.Author.Tests.{le-leb, lt-leb, le-ltb, lt-ltb, eq-eqb, ne_eqb, eqb-false}
use lib.Dec.{ltb, leb, eqb}
use lib.ListN.{length, get_or, take, drop}
use Rattle.text.specs.Scan.{until, before}
use Rattle.text.proofs.Laws.{rest}
use Rattle.text.specs.Whole.{is_digit, digits_onto, read_whole}
use Rattle.frame.specs.Frame.{refused_frame, stray, up_to99, with_station, station_of, station_at, Station, read_inner}

-- ---- a station has at most two digits

-- no number is none
malformed : (t : Bool) (w : Option ℕ) → up_to99 w ≡ 0 → up_to99 (cond t w None) ≡ 0
malformed true w e = e
malformed false w e = refl

-- what is read onto 100 or more is no station
above : (n : ℕ) (ds : List ℕ) → 100 ≤ n → up_to99 (digits_onto n ds) ≡ 0
unfolding digits_onto
above n [] h = rw (lt-ltb 99 n (omega arith))
above n (d ∷ ds) h =
    let m : ℕ = n * 10 + (d - 48) in
    malformed (is_digit d) (digits_onto m ds) (above m ds (omega arith))

-- nor is one byte more after 10, and two after 1
one_more_lem : (n d : ℕ) (ds : List ℕ) → 10 ≤ n → up_to99 (digits_onto n (d ∷ ds)) ≡ 0
unfolding digits_onto
one_more_lem n d ds h =
    let m : ℕ = n * 10 + (d - 48) in
    malformed (is_digit d) (digits_onto m ds) (above m ds (omega arith))

two_more : (n d e : ℕ) (ds : List ℕ) → 1 ≤ n → up_to99 (digits_onto n (d ∷ e ∷ ds)) ≡ 0
unfolding digits_onto
two_more n d e ds h =
    let m : ℕ = n * 10 + (d - 48) in
    malformed (is_digit d) (digits_onto m (e ∷ ds)) (one_more_lem m e ds (omega arith))

pub empty : station_of [] ≡ 0
unfolding station_of read_whole
empty = refl

-- a text that does not start with a digit is no number
unread : (a : ℕ) (ds : List ℕ) → is_digit a ≡ false → read_whole (a ∷ ds) ≡ None
unfolding read_whole digits_onto
unread a ds e = rw e (same (leb 1 (suc (length ds)) && leb (suc (length ds)) 4))
  where
    same : (t : Bool) → ◌≡◌ {A = Option ℕ} (cond t None None) None
    same true = refl
    same false = refl

-- no station starts with a byte below "1", or above "9"
low : (a : ℕ) (ds : List ℕ) → a < 49 → station_of (a ∷ ds) ≡ 0
unfolding station_of
low a ds h = go (eqb a 48) refl
  where
    go : (t : Bool) → eqb a 48 ≡ t → cond t 0 (up_to99 (read_whole (a ∷ ds))) ≡ 0
    go true e = refl
    go false e = rw (unread a ds (rw (lt-leb 48 a (lt_of_le-ne (omega arith) (eqb-false a 48 e)))))

high : (a : ℕ) (ds : List ℕ) → 57 < a → station_of (a ∷ ds) ≡ 0
unfolding station_of
high a ds h = rw (ne_eqb a 48 (λ e. omega arith), unread a ds (rw (le-leb 48 a (omega arith), lt-leb a 57 h)))

-- where it starts with another, the digits after it are read onto that one
onto :
    (a : ℕ) (ds : List ℕ) →
    49 ≤ a →
    a ≤ 57 →
    station_of (a ∷ ds) ≡ up_to99 (cond (leb (suc (length ds)) 4) (digits_onto (a - 48) ds) None)
unfolding station_of read_whole digits_onto
onto a ds h k =
    let e : 0 * 10 + (a - 48) ≡ a - 48 = omega arith in
    let n : leb 1 (suc (length ds)) ≡ true = le-leb 1 (suc (length ds)) (omega arith) in
    simp (ne_eqb a 48 (λ e. omega arith), n, le-leb 48 a (omega arith), le-leb a 57 k, e)

-- ---- the station in its place, before the first SP of a text

-- either way 0
either : (t : Bool) {v : ℕ} → v ≡ 0 → cond t 0 v ≡ 0
either true e = refl
either false e = e

no_station : {t : List ℕ} → station_at t ≡ 0 → Station t 0
no_station e = record { value_is = sym e; one_digit = λ h k. absurd (omega arith); two_digits = λ h. absurd (omega arith) }

-- SP follows at e
ended : (t : List ℕ) (e : ℕ) → before 32 t ≡ e → (e ≡ length t → ⊥) → station_at t ≡ station_of (take e t)
ended t e p n = rw (p, ne_eqb e (length t) n)

-- the text may be given by its first three bytes and the rest
by_bytes :
    (t : List ℕ) {v : ℕ} →
    3 ≤ length t →
    Station (get_or t 0 0 ∷ get_or t 1 0 ∷ get_or t 2 0 ∷ drop 3 t) v →
    Station t v
by_bytes [] h p = absurd (omega arith)
by_bytes (a ∷ []) h p = absurd (omega arith)
by_bytes (a ∷ b ∷ []) h p = absurd (omega arith)
by_bytes (a ∷ b ∷ c ∷ t) h p = p

first_none : (a : ℕ) (t : List ℕ) → ((ds : List ℕ) → station_of (a ∷ ds) ≡ 0) → station_at (a ∷ t) ≡ 0
first_none a t p = either (eqb (before 32 (a ∷ t)) (length (a ∷ t))) (part (before 32 (a ∷ t)))
  where
    part : (k : ℕ) → station_of (take k (a ∷ t)) ≡ 0
    part zero = empty
    part (suc k) = p (take k t)

module _ (a b c : ℕ) (t : List ℕ) where
  first_low : a < 49 → Station (a ∷ b ∷ c ∷ t) 0
  first_low h = no_station (first_none a (b ∷ c ∷ t) (λ ds. low a ds h))

  first_high : 57 < a → Station (a ∷ b ∷ c ∷ t) 0
  first_high h = no_station (first_none a (b ∷ c ∷ t) (λ ds. high a ds h))

  module _ (h : 49 ≤ a) (k : a ≤ 57) where
    one_digit : b ≡ 32 → Station (a ∷ b ∷ c ∷ t) (a - 48)
    unfolding until digits_onto
    one_digit e =
        let p : before 32 (a ∷ b ∷ c ∷ t) ≡ 1 = simp (ne_eqb a 32 (λ q. omega arith), eq-eqb b 32 e) in
        let v : station_of (a ∷ []) ≡ a - 48 = onto a [] h k ∙ rw (le-ltb 99 (a - 48) (omega arith)) in
        record {
          value_is = sym (ended (a ∷ b ∷ c ∷ t) 1 p (λ q. omega arith) ∙ v);
          one_digit = λ _ _. p;
          two_digits = λ l. absurd (omega arith);
        }

    second_bad : (b ≡ 32 → ⊥) → is_digit b ≡ false → Station (a ∷ b ∷ c ∷ t) 0
    unfolding until digits_onto
    second_bad n e =
        let u : ℕ = before 32 (c ∷ t) in
        let ds : List ℕ = b ∷ take u (c ∷ t) in
        let w = malformed (leb (suc (length ds)) 4) (digits_onto (a - 48) ds) (rw e) in
        let v : station_of (a ∷ ds) ≡ 0 = onto a ds h k ∙ w in
        let p : ℕ = suc (suc u) in
        no_station (rw (ne_eqb a 32 (λ q. omega arith), ne_eqb b 32 n) (either (eqb p (suc (suc (suc (length t))))) v))

    third_bad : (b ≡ 32 → ⊥) → (c ≡ 32 → ⊥) → Station (a ∷ b ∷ c ∷ t) 0
    unfolding until
    third_bad n m =
        let u : ℕ = before 32 t in
        let ds : List ℕ = b ∷ c ∷ take u t in
        let more = two_more (a - 48) b c (take u t) (omega arith) in
        let w = malformed (leb (suc (length ds)) 4) (digits_onto (a - 48) ds) more in
        let v : station_of (a ∷ ds) ≡ 0 = onto a ds h k ∙ w in
        let p : ℕ = suc (suc (suc u)) in
        no_station
        (rw
        (ne_eqb a 32 (λ q. omega arith), ne_eqb b 32 n, ne_eqb c 32 m)
        (either (eqb p (suc (suc (suc (length t))))) v))

    two_digits : 48 ≤ b → b ≤ 57 → c ≡ 32 → Station (a ∷ b ∷ c ∷ t) ((a - 48) * 10 + (b - 48))
    unfolding until digits_onto
    two_digits i j e =
        let m = ne_eqb a 32 (λ q. omega arith) in
        let n = ne_eqb b 32 (λ q. omega arith) in
        let p : before 32 (a ∷ b ∷ c ∷ t) ≡ 2 = simp (m, n, eq-eqb c 32 e) in
        let w : ℕ = (a - 48) * 10 + (b - 48) in
        let l = le-ltb 99 w (omega arith) in
        let v : station_of (a ∷ b ∷ []) ≡ w = onto a (b ∷ []) h k ∙ simp (le-leb 48 b i, le-leb b 57 j, l) in
        record {
          value_is = sym (ended (a ∷ b ∷ c ∷ t) 2 p (λ q. omega arith) ∙ v);
          one_digit = λ _ o. absurd (omega arith);
          two_digits = λ _. p;
        }

-- ---- what stands between STX and ETX, where no byte is stray

module _ (t : List ℕ) (clean : ltb (stray t) (length t) ≡ false) where
  inner_none : station_at t ≡ 0 → read_inner t ≡ refused_frame 7
  unfolding read_inner
  inner_none e = rw clean (go (eqb (before 32 t) (length t)) e)
    where
      go :
          let v : ℕ = station_of (take (before 32 t) t) in
          (b : Bool) →
          cond b 0 v ≡ 0 →
          cond b (refused_frame 7) (with_station v (drop (before 32 t + 1) t)) ≡ refused_frame 7
      go true p = refl
      go false p = rw p

  inner_some :
      (v e : ℕ) →
      v ≡ station_at t →
      (v ≡ 0 → ⊥) →
      before 32 t ≡ e →
      read_inner t ≡ record { number = 0; station = v; body = drop (e + 1) t }
  unfolding read_inner
  inner_some v e p n q = rw (clean, q) (go (eqb e (length t)) (rw q at p))
    where
      go :
          let w : ℕ = station_of (take e t) in
          let rest : List ℕ = drop (e + 1) t in
          (b : Bool) →
          v ≡ cond b 0 w →
          cond b (refused_frame 7) (with_station w rest) ≡ record { number = 0; station = v; body = rest }
      go true p = absurd (n p)
      go false p = rw (← p, ne_eqb v 0 n)

-- ---- the same of a text by its bytes

module _ (t : List ℕ) (h : 3 ≤ length t) where
  pub starts_low : get_or t 0 0 < 49 → Station t 0
  starts_low k = by_bytes t h (first_low _ _ _ _ k)

  pub starts_high : 57 < get_or t 0 0 → Station t 0
  starts_high k = by_bytes t h (first_high _ _ _ _ k)

  module _ (i : 49 ≤ get_or t 0 0) (j : get_or t 0 0 ≤ 57) where
    pub reads_one : get_or t 1 0 ≡ 32 → Station t (get_or t 0 0 - 48)
    reads_one e = by_bytes t h (one_digit _ _ _ _ i j e)

    pub reads_none : (get_or t 1 0 ≡ 32 → ⊥) → is_digit (get_or t 1 0) ≡ false → Station t 0
    reads_none n e = by_bytes t h (second_bad _ _ _ _ i j n e)

    pub ends_late : (get_or t 1 0 ≡ 32 → ⊥) → (get_or t 2 0 ≡ 32 → ⊥) → Station t 0
    ends_late n m = by_bytes t h (third_bad _ _ _ _ i j n m)

    pub reads_two : 48 ≤ get_or t 1 0 → get_or t 1 0 ≤ 57 → get_or t 2 0 ≡ 32 → Station t ((get_or t 0 0 - 48) * 10 + (get_or t 1 0 - 48))
    reads_two k l e = by_bytes t h (two_digits _ _ _ _ i j k l e)

-- for `read_station`
pub ruleset stations = (starts_low, starts_high, reads_one, reads_none, ends_late, reads_two)

-- ---- what is read then, where no byte is stray

module _ (t : List ℕ) (clean : ltb (stray t) (length t) ≡ false) where
  pub none_is : Station t 0 → read_inner t ≡ refused_frame 7
  none_is p = inner_none t clean (sym p.value_is)

  module _ (v : ℕ) (p : Station t v) where
    pub one_is : 0 < v → v < 10 → read_inner t ≡ record { number = 0; station = v; body = take (length t - 2) (drop 2 t) }
    one_is l h = inner_some t clean v 1 p.value_is (λ e. omega arith) (p.one_digit l h) ∙ rw (rest 2 t)

    pub two_is : 10 ≤ v → read_inner t ≡ record { number = 0; station = v; body = take (length t - 3) (drop 3 t) }
    two_is l = inner_some t clean v 2 p.value_is (λ e. omega arith) (p.two_digits l) ∙ rw (rest 3 t)
