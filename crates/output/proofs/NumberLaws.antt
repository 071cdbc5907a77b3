-- Laws of numbers in a line: one more number. Relies on the laws of `text` on pieces that are written one after the other.
use Rattle.std.proofs.Common.{ℕ, ◌≡◌, List, [], ◌∷◌, ◌++◌, append_assoc, append-nil}
use Rattle.std.specs.List.{AllZip}
use Rattle.text.specs.declared.Writer.{Writer}
use Rattle.text.specs.Text.{ascii, decimal}
use Rattle.text.specs.Writing.{Wrote}
use Rattle.text.proofs.TextLaws.{wrote_none, wrote_both}
use Rattle.output.specs.Numbers.{spaced, WroteNumbers}

each_more : {A B : Type 0} (R : A → B → Type 0) (xs : List A) (ys : List B) (x : A) (y : B) → AllZip R xs ys → R x y → AllZip R (xs ++ (x ∷ [])) (ys ++ (y ∷ []))
each_more R [] [] x y h r = (r, tt)
each_more R [] (z ∷ ys) x y h r = absurd h
each_more R (w ∷ xs) [] x y h r = absurd h
each_more R (w ∷ xs) (z ∷ ys) x y h r = (h.0, each_more R xs ys x y h.1 r)

spaced_more : (ns : List ℕ) (n : ℕ) → spaced (ns ++ (n ∷ [])) ≡ spaced ns ++ (ascii " " ++ decimal n)
spaced_more [] n = simp append-nil
spaced_more (m ∷ ns) n = rw (spaced_more ns n) (simp append_assoc)

pub none_written : {T : Type 0} {Converts : T → ℕ → Type 0} {w : Writer} → WroteNumbers Converts [] w w
none_written = record { values = []; each = tt; text = wrote_none }

pub one_more : {T : Type 0} {Converts : T → ℕ → Type 0} {part : List T} {x : T} {n : ℕ} {before mid space after : Writer} → WroteNumbers Converts part before mid
    → Converts x n → Wrote (ascii " ") mid space → Wrote (decimal n) space after → WroteNumbers Converts (part ++ (x ∷ [])) before after
one_more {Converts = Converts} {part} {x} {n} {before} {mid} {space} {after} so r w v =
    record {
      values = so.values ++ (n ∷ []);
      each = each_more Converts part so.values x n so.each r;
      text = rw (spaced_more so.values n) (wrote_both so.text (wrote_both w v));
    }
