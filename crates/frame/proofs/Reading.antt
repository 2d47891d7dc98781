-- Frames read back: a frame that was written is accepted, with its station and its body.
use Prim.Native.Nat.{ℕ, zero, suc, ◌+◌, ◌-◌, ◌≤◌, ◌<◌}
use mathlib.Core.Path.{◌≡◌, refl, sym, ap, ◌∙◌}
use mathlib.Core.Bool.{Bool, true, false, ◌&&◌}
use mathlib.Core.List.{List, [], ◌∷◌, ◌++◌, append_assoc, append-nil}
use mathlib.Core.Logic.{⊎_elim}
use native.Mathlib.Nat.{add-zero, eq-or-lt_of_le, le_of_suc-le-suc}
use native.Mathlib.Omega.{arith}
use borrow.Author.Tests.{le-ltb, eq-eqb, ne_eqb}
use lib.Dec.{T, eqb, eqb→eq}
use lib.ListN.{length, length-append}
use lib.Seq.{get_or-append_seam, get_or-append-add, take-append_seam, take-append-add, drop-append-add}
use Rattle.text.specs.Scan.{until}
use Rattle.text.specs.Whole.{read_whole, digits_onto, shortest, leading, digit}
use Rattle.frame.specs.Checksum.{lrc_of}
use Rattle.frame.specs.Frame.{is_stray, stray, station_of, read_inner, read_frame, opening, closing, frame_of, Printable}
use Rattle.frame.specs.Back.{FramesReadBack}
use Rattle.frame.proofs.Writing.{frame_length}
use Rattle.text.proofs.Laws.{Skips, skips_stop}
use Rattle.text.proofs.Digits.{shortest_skips}

-- ---- no byte of a printable text is stray

pub printable_skips : (s : List ℕ) → Printable s → Skips is_stray s
unfolding until
printable_skips [] p bs = omega arith
printable_skips (b ∷ s) p bs = rw (le-ltb b 32 p.0.0, le-ltb 126 b p.0.1) (omega (arith, printable_skips s p.1 bs))

pub digit_clean : (d : ℕ) → d < 10 → is_stray (d + 48) ≡ false
digit_clean d h = rw (le-ltb (d + 48) 32 (omega arith), le-ltb 126 (d + 48) (omega arith))

pub digit_solid : (d : ℕ) → d < 10 → eqb (d + 48) 32 ≡ false
digit_solid d h = ne_eqb (d + 48) 32 (λ e. omega arith)

-- ---- stations: each of 0 to 99 is read as itself, by one computed test

sound : ℕ → Bool
sound v = eqb (station_of (shortest v)) v

-- every number below n
all : ℕ → Bool
all zero = true
all (suc n) = sound n && all n

computed : T (all 100)
unfolding all sound shortest leading digit station_of read_whole digits_onto
computed = tt

both : (a b : Bool) → T (a && b) → T a × T b
both true b t = (tt, t)
both false b t = absurd t

at : (n v : ℕ) → v < n → T (all n) → T (sound v)
unfolding all
at zero v h t = absurd (omega arith)
at (suc n) v h t =
    let p = both (sound n) (all n) t in
    ⊎_elim (λ e. rw e p.0) (λ k. at n v k p.1) (eq-or-lt_of_le (le_of_suc-le-suc h))

station_back : (v : ℕ) → v ≤ 99 → station_of (shortest v) ≡ v
unfolding sound
station_back v h = eqb→eq (station_of (shortest v)) v (at 100 v (omega arith) computed)

-- ---- the two stages of the reader

-- no byte is stray before SP or after it
none_stray : (v : ℕ) (body : List ℕ) → Skips is_stray body → stray (shortest v ++ (32 ∷ body)) ≡ length (shortest v ++ (32 ∷ body))
unfolding until
none_stray v body p =
    let b : stray body ≡ length body = ap stray (sym (append-nil body)) ∙ p [] ∙ add-zero (length body) in
    omega (arith, shortest_skips is_stray digit_clean v (32 ∷ body), length-append (shortest v) (32 ∷ body))

-- a station, SP and a printable body are read as that station and that body
inner_back : (v : ℕ) (body : List ℕ) → 1 ≤ v → v ≤ 99 → Skips is_stray body → read_inner (shortest v ++ (32 ∷ body)) ≡ record { number = 0; station = v; body = body }
unfolding read_inner
inner_back v body h k p =
    let d : List ℕ = shortest v in
    let t : List ℕ = d ++ (32 ∷ body) in
    let n : length t ≡ length d + suc (length body) = length-append d (32 ∷ body) in
    rw (
      none_stray v body p,
      le-ltb (length t) (length t) (omega arith),
      skips_stop (λ b. eqb b 32) d 32 body (shortest_skips (λ b. eqb b 32) digit_solid v) refl,
      ne_eqb (length d) (length t) (omega arith),
      take-append_seam d (32 ∷ body),
      drop-append-add d (32 ∷ body) 1,
      station_back v k,
      ne_eqb v 0 (omega arith),
    )

-- a frame is read as what stands between STX and ETX
frame_back : (t : List ℕ) → 3 ≤ length t → length t ≤ 252 → read_frame (2 ∷ (t ++ closing t)) ≡ read_inner t
unfolding read_frame closing
frame_back t h k =
    let c : ℕ = lrc_of (t ++ (3 ∷ [])) in
    let e : List ℕ = 3 ∷ c ∷ [] in
    let s : List ℕ = 2 ∷ (t ++ e) in
    let n : length s ≡ length t + 3 = omega (arith, length-append t e) in
    let end : length s - 2 ≡ suc (length t) = omega arith in
    let last : length s - 1 ≡ suc (length t + 1) = omega arith in
    rw (
      le-ltb (length s) 6 (omega arith),
      le-ltb 255 (length s) (omega arith),
      end,
      get_or-append_seam t 3 (c ∷ []) 0,
      last,
      take-append-add t e 1,
      get_or-append-add t e 1 0,
      eq-eqb c c refl,
      take-append_seam t e,
    )

-- a frame is STX, the station, SP, the body, and the closing of those that follow STX
frame_is : (st : ℕ) (body : List ℕ) → frame_of st body ≡ 2 ∷ ((shortest st ++ (32 ∷ body)) ++ closing (shortest st ++ (32 ∷ body)))
unfolding frame_of opening
frame_is st body = simp append_assoc

-- a frame whose body has no stray byte
pub frame_reads_back : (st : ℕ) (body : List ℕ) → 1 ≤ st → st ≤ 99 → Skips is_stray body → 6 ≤ length (frame_of st body) → length (frame_of st body) ≤ 255 → read_frame (frame_of st body) ≡ record { number = 0; station = st; body = body }
frame_reads_back st body h k p low high =
    let t : List ℕ = shortest st ++ (32 ∷ body) in
    let n : length t ≡ length (shortest st) + suc (length body) = length-append (shortest st) (32 ∷ body) in
    let l = frame_length st body in
    rw (frame_is st body, frame_back t (omega arith) (omega arith)) (inner_back st body h k p)

pub frames_read_back : FramesReadBack
frames_read_back st body h k p low high = frame_reads_back st body h k (printable_skips body p) low high
