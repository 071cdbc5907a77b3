-- The text that the program for the viewer prints for a file.
use Rattle.std.specs.Prelude.{ℕ, ◌≡◌, List, length, Ok, Err}
use Rattle.rules.specs.Slices.{overwrite}
use Rattle.tables.specs.declared.Refusal.{Refusal}
use Rattle.tables.specs.Answers.{number_of}
use Rattle.tables.specs.Checks.{Checked, ◌then◌}
use Rattle.lines.specs.Lines.{refused_line}
use Rattle.questions.specs.declared.Question.{Question}
use Rattle.checker.specs.Graph.{graph_text_at, graph_checks}
use Rattle.questions.specs.Questions.{question_of, program_checks}

abbrev pub refusal_text : Refusal → List ℕ
refusal_text r = refused_line (number_of r.reason) r.place

-- a text, or the line of what turns it back
abbrev pub text_after : Checked → List ℕ → List ℕ
text_after (Err r) text = refusal_text r
text_after (Ok u) text = text

-- the graph of a question, where the text has room for so many bytes
abbrev pub graph_printed : List ℕ → Question → ℕ → List ℕ
graph_printed s q room = text_after (graph_checks s q room) (graph_text_at s q)

-- the whole text: a file that is turned back, a missing kind and a text longer than the room print only `refused N at P`
unfoldable pub aut_text : List ℕ → ℕ → List ℕ
aut_text s room = text_after (program_checks s then graph_checks s (question_of s) room) (graph_text_at s (question_of s))

-- a text stands at the start of a buffer, and its length is returned
pub record Printed (text before : List ℕ) (count : ℕ) (after : List ℕ) : Type 0 where
  pub count_is : count ≡ length text
  pub bytes_are : after ≡ overwrite text before
