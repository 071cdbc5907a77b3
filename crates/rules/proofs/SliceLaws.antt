-- Laws of what is written to a slice. Relies on nothing.
use Prim.Native.Nat.{min, ℕ, zero, suc, ◌+◌, ◌-◌, ◌≤◌, ◌<◌}
use borrow.Rule.Slice.PartMut.{put_mid}
use mathlib.Core.Path.{◌≡◌, refl, sym, ap, ◌∙◌}
use mathlib.Core.List.{List, [], ◌∷◌, ◌++◌, flat_map}
use mathlib.Core.Logic.{◌⊎◌, inl, inr}
use native.Mathlib.Omega.{arith}
use lib.ListN.{length, get_or, take, drop, set, length-set, length-append, get_or-append}
use lib.Seq.{take_all, get_or-set_same, get_or-set_other}
use Rattle.rules.specs.Slices.{write_at, overwrite}

-- a list written after another
pub write_at-append : (at : ℕ) (xs ys l : List ℕ) → write_at at (xs ++ ys) l ≡ write_at (at + length xs) ys (write_at at xs l)
unfolding write_at
write_at-append at [] ys l = let here : at ≡ at + 0 = omega arith in ap (λ (k : ℕ). write_at k ys l) here
write_at-append at (x ∷ xs) ys l =
    let next : suc at + length xs ≡ at + length (x ∷ xs) = omega arith in
    write_at-append (suc at) xs ys (set l at x) ∙ ap (λ (k : ℕ). write_at k ys (write_at (suc at) xs (set l at x))) next

pub length-write_at : (at : ℕ) (xs l : List ℕ) → length (write_at at xs l) ≡ length l
unfolding write_at
length-write_at at [] l = refl
length-write_at at (x ∷ xs) l = length-write_at (suc at) xs (set l at x) ∙ length-set l at x

-- past its first entry, a list is written as its tail is
write_at-tail : (at : ℕ) (xs : List ℕ) (y : ℕ) (l : List ℕ) → write_at (suc at) xs (y ∷ l) ≡ y ∷ write_at at xs l
unfolding write_at
write_at-tail at [] y l = refl
write_at-tail at (x ∷ xs) y l = write_at-tail (suc at) xs y (set l at x)

-- written from the first entry on, where there is room, the numbers stand before the rest
pub write_at-overwrite : (xs l : List ℕ) → length xs ≤ length l → write_at 0 xs l ≡ overwrite xs l
unfolding write_at overwrite
write_at-overwrite [] l h = refl
write_at-overwrite (x ∷ xs) [] h = absurd (omega arith)
write_at-overwrite (x ∷ xs) (y ∷ ys) h = write_at-tail 0 xs x ys ∙ ap (λ (z : List ℕ). x ∷ z) (write_at-overwrite xs ys (omega arith))

-- all that is written stands there
pub overwrite-long : (xs l : List ℕ) → length xs ≤ length (overwrite xs l)
unfolding overwrite
overwrite-long xs l = omega (arith, length-append xs (drop (length xs) l))

-- the entries that are written over
pub overwrite-entry : (xs l : List ℕ) (i : ℕ) → i < length xs → get_or (overwrite xs l) i 0 ≡ get_or xs i 0
unfolding overwrite
overwrite-entry xs l i h = get_or-append xs (drop (length xs) l) 0 i h

-- the entries that a list is written to, and the others
pub write_at-other : (at : ℕ) (xs l : List ℕ) (i : ℕ) → (i < at) ⊎ (at + length xs ≤ i) → get_or (write_at at xs l) i 0 ≡ get_or l i 0
unfolding write_at
write_at-other at [] l i h = refl
write_at-other at (x ∷ xs) l i h = write_at-other (suc at) xs (set l at x) i (go h) ∙ get_or-set_other l at i x 0 (apart h)
  where
    go : (i < at) ⊎ (at + length (x ∷ xs) ≤ i) → (i < suc at) ⊎ (suc at + length xs ≤ i)
    go (inl k) = inl (omega arith)
    go (inr k) = inr (omega arith)

    apart : (i < at) ⊎ (at + length (x ∷ xs) ≤ i) → (i ≡ at) → ⊥
    apart (inl k) e = omega arith
    apart (inr k) e = omega arith

pub write_at-entry : (at : ℕ) (xs l : List ℕ) (i : ℕ) → i < length xs → at + length xs ≤ length l → get_or (write_at at xs l) (at + i) 0 ≡ get_or xs i 0
unfolding write_at
write_at-entry at [] l i h r = absurd (omega arith)
write_at-entry at (x ∷ xs) l zero h r =
    let here : at + 0 ≡ at = omega arith in
    rw here (write_at-other (suc at) xs (set l at x) at (inl (omega arith)) ∙ get_or-set_same l at x 0 (omega arith))
write_at-entry at (x ∷ xs) l (suc i) h r =
    let next : at + suc i ≡ suc at + i = omega arith in
    rw next (write_at-entry (suc at) xs (set l at x) i (omega arith) (omega (arith, length-set l at x)))

-- ---- a part that is copied over

nothing_written : (at : ℕ) (piece : List ℕ) → write_at at piece [] ≡ []
unfolding write_at
nothing_written at [] = refl
nothing_written at (x ∷ xs) = nothing_written (suc at) xs

-- the numbers of the piece that fit take the place of as many
pub part_written : (at start count : ℕ) (piece l : List ℕ) → start ≡ min at (length l) → count ≡ min (length piece) (length l - start)
    → put_mid start count l (take count piece) ≡ write_at at piece l
unfolding write_at
part_written at start count piece [] e f = let s : start ≡ 0 = omega arith in let k : count ≡ 0 = omega arith in rw (s, k) (sym (nothing_written at piece))
part_written (suc at) zero count piece (y ∷ l) e f = absurd (omega arith)
part_written (suc at) (suc start) count piece (y ∷ l) e f = ap (λ (z : List ℕ). y ∷ z) (part_written at start count piece l (omega arith) (omega arith)) ∙ sym (write_at-tail at piece y l)
part_written zero (suc start) count piece (y ∷ l) e f = absurd (omega arith)
part_written zero zero count [] (y ∷ l) e f = let k : count ≡ 0 = omega arith in rw k refl
part_written zero zero zero (x ∷ xs) (y ∷ l) e f = absurd (omega arith)
part_written zero zero (suc count) (x ∷ xs) (y ∷ l) e f = ap (λ (z : List ℕ). x ∷ z) (part_written 0 0 count xs l (omega arith) (omega arith)) ∙ sym (write_at-tail 0 xs x l)

-- a piece that fits takes the place of as many numbers
pub piece_written : (at count : ℕ) (piece l : List ℕ) → count ≡ length piece → at + count ≤ length l → put_mid at count l piece ≡ write_at at piece l
piece_written at count piece l e h =
    ap (put_mid at count l) (sym (take_all count piece (omega arith))) ∙ part_written at at count piece l (omega arith) (omega arith)

-- ---- lists that are written one after the other

-- those that are still to come, once the first of them is copied over
pub written_next : {A : Type 0} (f : A → List ℕ) {c : A} {before after : List A} (at next count : ℕ) (out : List ℕ) {piece end : List ℕ} → before ≡ c ∷ after
    → piece ≡ f c → length (f c) ≡ count → next ≡ at + count → at + count ≤ length out → write_at at (flat_map f before) out ≡ end
    → write_at next (flat_map f after) (put_mid at count out piece) ≡ end
unfolding flat_map
written_next {A} f {c} {before} {after} at next count out {piece} e same long here room h =
    let place : next ≡ at + length (f c) = omega arith in
    rw (place, same, piece_written at count (f c) out (sym long) room)
    (sym (write_at-append at (f c) (flat_map f after) out) ∙ ap (λ (l : List A). write_at at (flat_map f l) out) (sym e) ∙ h)

-- once none is left, all are written
pub written_all : {A : Type 0} (f : A → List ℕ) {left : List A} (at : ℕ) (whole out old : List ℕ) → left ≡ [] → length whole ≤ length old
    → write_at at (flat_map f left) out ≡ write_at 0 whole old → out ≡ overwrite whole old
unfolding flat_map write_at
written_all {A} f at whole out old e room h = ap (λ (l : List A). write_at at (flat_map f l) out) (sym e) ∙ h ∙ write_at-overwrite whole old room
