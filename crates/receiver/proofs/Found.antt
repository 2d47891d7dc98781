-- A sound frame after noise, with nothing held before it, is handed out.
use Prim.Native.Nat.{ℕ, ◌+◌, ◌-◌, ◌≤◌, ◌<◌}
use mathlib.Core.Path.{◌≡◌, refl, sym, ap, subst, ◌∙◌}
use mathlib.Core.Bool.{false}
use mathlib.Core.List.{List, [], ◌∷◌, ◌++◌, append_assoc}
use native.Mathlib.Omega.{arith}
use borrow.Author.Tests.{eq-eqb, ne_eqb}
use lib.Dec.{eqb}
use lib.ListN.{length, length-append}
use lib.Seq.{get_or-append_seam}
use Rattle.frame.specs.Frame.{Printable}
use Rattle.frame.proofs.Sound.{Sound, sound}
use Rattle.receiver.specs.Rule.{ended, slices_from, slices, held_at_end}
use Rattle.receiver.specs.Shape.{Noise, SoundFound}
use Rattle.receiver.proofs.Steps.{is_finished, is_begun, is_noise, is_added}
use Rattle.receiver.proofs.Cut.{slices_cut}
use Rattle.receiver.proofs.Line.{whole_line}

none_ended : ended [] ≡ false
unfolding ended
none_ended = refl

stx_open : ended (2 ∷ []) ≡ false
unfolding ended
stx_open = refl

ended_snoc : (h : List ℕ) (b : ℕ) → ended (h ++ (b ∷ [])) ≡ eqb b 3
unfolding ended
ended_snoc h b =
    let e : length (h ++ (b ∷ [])) - 1 ≡ length h = omega (arith, length-append h (b ∷ [])) in
    rw (e, get_or-append_seam h b [] 0)

-- noise gives nothing
quiet : (n r : List ℕ) → Noise n → slices_from [] (n ++ r) ≡ slices_from [] r
unfolding slices_from
quiet [] r a = refl
quiet (b ∷ n) r a = rw (is_noise [] b none_ended a.0 refl) (quiet n r a.1)

-- a printable text, ETX and one byte end the frame
text_ends : (h t : List ℕ) (x : ℕ) (r : List ℕ) → ended h ≡ false → 0 < length h → Printable t → length h + length t ≤ 253 → slices_from h (t ++ (3 ∷ x ∷ r)) ≡ (h ++ (t ++ (3 ∷ x ∷ []))) ∷ slices_from [] r
unfolding slices_from
text_ends h [] x r e p a l =
    rw (
      is_added h 3 e (λ z. omega arith) (λ z. omega arith) (omega arith),
      is_finished (h ++ (3 ∷ [])) x (ended_snoc h 3 ∙ eq-eqb 3 3 refl),
      append_assoc h (3 ∷ []) (x ∷ []),
    )
text_ends h (b ∷ t) x r e p a l =
    rw (is_added h b e (λ z. omega (arith, a.0)) (λ z. omega arith) (omega arith))
    (text_ends (h ++ (b ∷ [])) t x r (ended_snoc h b ∙ ne_eqb b 3 (λ z. omega (arith, a.0))) (omega (arith, length-append h (b ∷ []))) a.1 (omega (arith, length-append h (b ∷ []))) ∙ rw (append_assoc h (b ∷ [])))

frame_ends : (t : List ℕ) (x : ℕ) (r : List ℕ) → Printable t → length t ≤ 252 → slices_from [] (2 ∷ (t ++ (3 ∷ x ∷ r))) ≡ (2 ∷ (t ++ (3 ∷ x ∷ []))) ∷ slices_from [] r
unfolding slices_from
frame_ends t x r a l = rw (is_begun [] 2 none_ended refl) (text_ends (2 ∷ []) t x r stx_open (omega arith) a (omega arith))

sound_ends : (frame rest : List ℕ) → Sound frame → slices_from [] (frame ++ rest) ≡ frame ∷ slices_from [] rest
sound_ends frame rest s =
    subst (λ (f : List ℕ). slices_from [] (f ++ rest) ≡ f ∷ slices_from [] rest) (sym s.frame_is)
    (rw (append_assoc s.text (3 ∷ s.lrc ∷ []) rest) (frame_ends s.text s.lrc rest s.text_is s.fits))

-- behind bytes that leave nothing held, and noise
next_found : (before noise frame rest : List ℕ) → held_at_end before ≡ [] → Noise noise → Sound frame → slices (before ++ (noise ++ (frame ++ rest))) ≡ slices before ++ (frame ∷ slices rest)
next_found before noise frame rest h n s =
    slices_cut [] before (noise ++ (frame ++ rest)) ∙ rw (h, quiet noise (frame ++ rest) n, sound_ends frame rest s)

pub sound_found : SoundFound
sound_found m cs before noise frame rest h l e n f =
    whole_line m cs h ∙ ap slices l ∙ next_found before noise frame rest e n (sound frame f)
