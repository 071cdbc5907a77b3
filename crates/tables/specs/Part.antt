-- A part of a caller's slice.
use Rattle.std.specs.Prelude.{ℕ, ◌+◌, ◌≡◌, cond, List, ltb, take, drop}
use Rattle.std.specs.Borrow.{Bor}
use Rattle.tables.specs.declared.reads.Entry.{Entry}
use Rattle.tables.specs.File.{body_length}

-- where a part of a slice lies: its start, and how many elements it has
pub record Span : Type 0 where
  pub start : ℕ
  pub count : ℕ

abbrev pub span : ℕ → ℕ → Span
span start count = record { start = start; count = count }

-- part is the part of whole at a span: it lies there, in the same memory, and holds what whole holds there
pub record PartOf (whole part : Bor (List ℕ)) (at : Span) : Type 0 where
  pub block : part.ref_ptr.0 ≡ whole.ref_ptr.0
  pub start : part.ref_ptr.1 ≡ whole.ref_ptr.1 + at.start
  pub bytes : part.now ≡ take at.count (drop at.start whole.now)

-- the body that an entry tells of; where a file of so many bytes is shorter, the empty part at its start
unfoldable pub entry_span : ℕ → Entry → Span
entry_span bytes e = cond (ltb bytes (e.offset + body_length e)) (span 0 0) (span e.offset (body_length e))
