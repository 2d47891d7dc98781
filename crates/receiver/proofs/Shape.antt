-- Every slice handed out has 3 to 255 bytes, STX first and ETX last but one.
use Prim.Native.Nat.{ℕ, zero, suc, ◌+◌, ◌-◌, ◌≤◌, ◌<◌}
use mathlib.Core.Path.{◌≡◌, refl, ◌∙◌}
use mathlib.Core.Bool.{Bool, true, false, cond, not, ◌||◌}
use mathlib.Core.List.{List, [], ◌∷◌, ◌++◌}
use native.Mathlib.Omega.{arith}
use borrow.Author.Tests.{eqb-true, eqb-false, ltb-true, ltb-false, eq-eqb}
use lib.Dec.{eqb, ltb}
use lib.ListN.{length, get_or, take, length-append}
use lib.Seq.{slice}
use Rattle.text.specs.Scan.{before}
use Rattle.frame.specs.Checksum.{lrc_of}
use Rattle.frame.specs.Frame.{Reading, refused_frame, stray, station_of, inner, read_inner, read_frame}
use Rattle.receiver.specs.Rule.{dropped, begun, added, finished, ended, effect, slices_from}
use Rattle.receiver.specs.Line.{line}
use Rattle.receiver.specs.Shape.{Shaped, Each, HandedShaped, ShapedRefusals}
use Rattle.receiver.proofs.Steps.{is_finished, is_begun, is_noise, is_added, is_dropped}
use Rattle.receiver.proofs.Line.{whole_line}

-- ---- what a byte is, and why

data Seen (h : List ℕ) (b : ℕ) : Type 0 where
  was_finished : ended h ≡ true → effect h b ≡ finished → Seen h b
  was_begun : b ≡ 2 → effect h b ≡ begun → Seen h b
  was_dropped : effect h b ≡ dropped → Seen h b
  was_added : 0 < length h → length h < 254 → effect h b ≡ added → Seen h b

seen : (h : List ℕ) (b : ℕ) → Seen h b
seen h b = go (ended h) (eqb b 2) (eqb (length h) 0) (ltb (length h) 254) refl refl refl refl
  where
    go : (t u v w : Bool) → ended h ≡ t → eqb b 2 ≡ u → eqb (length h) 0 ≡ v → ltb (length h) 254 ≡ w → Seen h b
    go true u v w p q r s = was_finished p (is_finished h b p)
    go false true v w p q r s = let e = eqb-true b 2 q in was_begun e (is_begun h b p e)
    go false false true w p q r s = was_dropped (is_noise h b p (eqb-false b 2 q) (eqb-true (length h) 0 r))
    go false false false true p q r s =
        let e : length h ≡ 0 → ⊥ = eqb-false (length h) 0 r in
        let l : length h < 254 = ltb-true (length h) 254 s in
        was_added (omega (arith, e)) l (is_added h b p (eqb-false b 2 q) e l)
    go false false false false p q r s =
        was_dropped (is_dropped h b p (eqb-false b 2 q) (eqb-false (length h) 0 r) (ltb-false (length h) 254 s))

-- ---- the bytes held start with STX

record Started (h : List ℕ) : Type 0 where
  fits : length h ≤ 254
  starts : 0 < length h → get_or h 0 0 ≡ 2

none_started : Started []
none_started = record { fits = omega arith; starts = λ z. absurd (omega arith) }

stx_started : (b : ℕ) → b ≡ 2 → Started (b ∷ [])
stx_started b e = record { fits = omega arith; starts = λ z. e }

-- a byte behind others leaves them where they stand
get_d_before : (h : List ℕ) (b i : ℕ) → i < length h → get_or (h ++ (b ∷ [])) i 0 ≡ get_or h i 0
get_d_before [] b i l = absurd (omega arith)
get_d_before (a ∷ h) b zero l = refl
get_d_before (a ∷ h) b (suc i) l = get_d_before h b i (omega arith)

more_started : (h : List ℕ) (b : ℕ) → Started h → 0 < length h → length h < 254 → Started (h ++ (b ∷ []))
more_started h b s p l = record { fits = omega (arith, length-append h (b ∷ [])); starts = λ z. get_d_before h b 0 p ∙ s.starts p }

-- what starts with STX and ends with ETX has two bytes
two : (h : List ℕ) → Started h → ended h ≡ true → 2 ≤ length h
unfolding ended
two [] s e = absurd (omega (arith, eqb-true 0 3 e))
two (a ∷ []) s e = absurd (omega (arith, eqb-true a 3 e, s.starts (omega arith)))
two (a ∷ c ∷ h) s e = omega arith

shaped : (h : List ℕ) (b : ℕ) → Started h → ended h ≡ true → Shaped (h ++ (b ∷ []))
unfolding ended
shaped h b s e =
    let k = two h s e in
    let n : length (h ++ (b ∷ [])) ≡ length h + 1 = length-append h (b ∷ []) in
    let i : length (h ++ (b ∷ [])) - 2 ≡ length h - 1 = omega arith in
    record {
      low = omega arith;
      high = omega (arith, s.fits);
      starts = get_d_before h b 0 (omega arith) ∙ s.starts (omega arith);
      ends = rw i (get_d_before h b (length h - 1) (omega arith) ∙ eqb-true (get_or h (length h - 1) 0) 3 e);
    }

-- ---- all slices

each_shaped : (h bs : List ℕ) → Started h → Each Shaped (slices_from h bs)
unfolding slices_from
each_shaped h [] s = tt
each_shaped h (b ∷ bs) s = go (seen h b) (λ g k. each_shaped g bs k)
  where
    go : Seen h b → ((g : List ℕ) → Started g → Each Shaped (slices_from g bs)) → Each Shaped (slices_from h (b ∷ bs))
    go (was_finished p e) f = rw e (shaped h b s p, f [] none_started)
    go (was_begun p e) f = rw e (f (b ∷ []) (stx_started b p))
    go (was_dropped e) f = rw e (f [] none_started)
    go (was_added p l e) f = rw e (f (h ++ (b ∷ [])) (more_started h b s p l))

pub handed_shaped : HandedShaped
handed_shaped m cs h = rw (whole_line m cs h) (each_shaped [] (line cs) none_started)

-- ---- how such a slice may be refused

-- another number than m, or what follows is another
avoids : (t : Bool) (n : ℕ) {m : ℕ} (o : Reading) → (n ≡ m → ⊥) → (o.number ≡ m → ⊥) → (cond t (refused_frame n) o).number ≡ m → ⊥
avoids true n o p q = p
avoids false n o p q = q

never : (s : List ℕ) (m : ℕ) → Shaped s → 3 ≤ m → m ≤ 4 → (read_frame s).number ≡ m → ⊥
unfolding read_frame read_inner
never s m h l k =
    rw (eq-eqb (get_or s 0 0) 2 h.starts, eq-eqb (get_or s (length s - 2) 0) 3 h.ends)
    (avoids (ltb (length s) 6 || ltb 255 (length s)) 2 _ (λ z. omega arith)
    (avoids (not (eqb (get_or s (length s - 1) 0) (lrc_of (slice 1 (length s - 1) s)))) 5 _ (λ z. omega arith)
    (avoids (ltb (stray (inner s)) (length (inner s))) 6 _ (λ z. omega arith)
    (avoids (eqb (before 32 (inner s)) (length (inner s))) 7 _ (λ z. omega arith)
    (avoids (eqb (station_of (take (before 32 (inner s)) (inner s))) 0) 7 _ (λ z. omega arith) (λ z. omega arith))))))

pub shaped_refusals : ShapedRefusals
shaped_refusals s h = (never s 3 h (omega arith) (omega arith), never s 4 h (omega arith) (omega arith))
