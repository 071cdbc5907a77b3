-- The second and the third demand, of the calls that are carried out: for the machines D and S of the two tables, S widened by the question's standing
-- set, which the rival has too, the pair (t, s) that is asked about, the values that are returned (the verdict, 1 for yes and 0 for no; the count
-- kept; rounds; the count of moves, of steps or of triples), and what the slices hold at exit. Beside them what document 02 wants shown of Explain.
use Rattle.std.specs.Prelude.{ℕ, suc, ◌*◌, ◌≤◌, ◌<◌, ◌≡◌, Bool, not, ◌↔◌, T, eqb, length, take, drop}
use mathlib.Core.List.{List, [], ◌∷◌, flat_map, Memᴰ}
use Rattle.rules.specs.declared.Mode.{Mode}
use Rattle.rules.specs.declared.Mode.TheVariants.{Full}
use Rattle.rules.specs.Below.{max_below}
use Rattle.rules.specs.Lists.{Pairwise}
use Rattle.rules.specs.Machines.{Machine}
use Rattle.rules.specs.Actions.{Action, beside}
use Rattle.rules.specs.declared.Candidate.{Candidate}
use Rattle.rules.specs.Moves.{Survives, Precedes, numbers}
use Rattle.rules.specs.Relations.{Pairs, Passing, Meets}
use Rattle.rules.specs.Rounds.{Kept, mark_at, count_pairs}
use Rattle.rules.specs.Runs.{Free, Schedulable}
use Rattle.rules.specs.Steps.{IsRun, EndsBlocked, step_rows}
use Rattle.rules.specs.declared.Triple.{Triple}
use Rattle.rules.specs.Explanations.{AreTriples, Explains, triples_at, triple_numbers}
use Rattle.tables.specs.Answers.{Answer, carried_out}
use Rattle.questions.specs.declared.Question.{Question}
use Rattle.questions.specs.Pairs.{demand_of, supply_of}
use Rattle.questions.specs.Modes.{mode_of}

-- "Marked 0 means kept; the kept set of a carried-out call that writes marks is the pairs of states whose mark it wrote as 0."
abbrev pub KeptIn : Machine → Machine → List ℕ → Pairs
KeptIn D S slice u w = (u < D.n) × (w < S.n) × (mark_at S.n slice u w ≡ 0)

-- ---- the third demand

-- The third demand, whole. A rival writes a set of pairs down as a test.
pub record ThirdDemand (mode : Mode) (D S : Machine) (t s verdict kept : ℕ) (slice : List ℕ) : Type 0 where
  -- an entry for every pair of states
  pub room : D.n * S.n ≤ length slice
  -- "if the rival's set meets the definition, every pair of it is kept in ours"
  pub rivals : (R : ℕ → ℕ → Bool) → Meets mode D S (Passing R) → (u w : ℕ) → T (R u w) → KeptIn D S slice u w
  -- "our kept set, the pairs marked 0, meets the definition too"
  pub ours : Meets mode D S (KeptIn D S slice)
  -- "the count kept that we report is the number of pairs in it"
  pub count : kept ≡ count_pairs D S (λ u w. eqb (mark_at S.n slice u w) 0)
  -- "the start pair gets a no exactly when no set whatever that meets the definition holds that pair"
  pub no_exactly : (verdict ≡ 0) ↔ ((R : ℕ → ℕ → Bool) → Meets mode D S (Passing R) → T (R t s) → ⊥)

-- The same where a rival's set is any predicate on pairs.
pub record ThirdDemandAll (mode : Mode) (D S : Machine) (t s verdict kept : ℕ) (slice : List ℕ) : Type 1 where
  pub room : D.n * S.n ≤ length slice
  pub rivals : (R : Pairs) → Meets mode D S R → (u w : ℕ) → R u w → KeptIn D S slice u w
  pub ours : Meets mode D S (KeptIn D S slice)
  pub count : kept ≡ count_pairs D S (λ u w. eqb (mark_at S.n slice u w) 0)
  pub no_exactly : (verdict ≡ 0) ↔ ((R : Pairs) → Meets mode D S R → R t s → ⊥)

-- ---- the second demand

-- The five numbers of a transition of PADS by the action a to the pair (u, v): what is granted and left, consumed, requested and unmet, and the
-- two targets.
abbrev pub step_numbers : Action → ℕ → ℕ → List ℕ
step_numbers a u v = a.grants ∷ a.consumptions ∷ a.requests ∷ u ∷ v ∷ []

-- The five entries of the move with the number i in a slice.
abbrev pub move_at : List ℕ → ℕ → List ℕ
move_at slice i = take 5 (drop (5 * i) slice)

-- The second demand, as far as it speaks of Moves of a pair.
pub record MovesDemand (D S : Machine) (t s count : ℕ) (slice : List ℕ) : Type 0 where
  -- "The moves of a task beside a supply are those of the PADS rules after preemption, no more and no fewer."
  pub are_steps : (a : Action) (u v : ℕ) → (beside D S).Step (t, s) a (u, v) ↔ ((i : ℕ) × (i < count) × (move_at slice i ≡ step_numbers a u v))
  -- each is of a task move and a supply move; "Each move is written as left, consumed, unmet, demand target, supply target"
  pub moves : List Candidate
  pub many : length moves ≡ count
  pub written : take (5 * count) slice ≡ flat_map numbers moves
  pub survive : (c : Candidate) → Memᴰ c moves ↔ Survives D S t s c
  -- "supply rows outermost, task rows within, both rising"
  pub rising : Pairwise Precedes moves
  -- each pair of a task move and a supply move stands once
  pub once : Pairwise (λ c d. c ≡ d → ⊥) moves

-- The second demand, of marks that are written.
pub record MarksDemand (mode : Mode) (D S : Machine) (slice : List ℕ) : Type 0 where
  -- an entry for every pair of states
  pub room : D.n * S.n ≤ length slice
  -- "In both modes each struck pair bears the round in which the stepwise definition first loses it": the rounds up to k keep it, and round
  -- k + 1 does not
  pub struck : (k u w : ℕ) → u < D.n → w < S.n
      → (mark_at S.n slice u w ≡ suc k) ↔ (((i : ℕ) → i ≤ k → Kept mode D S i u w) × (Kept mode D S (suc k) u w → ⊥))
  -- "or 0 if every round does"
  pub kept : (u w : ℕ) → u < D.n → w < S.n → (mark_at S.n slice u w ≡ 0) ↔ ((k : ℕ) → Kept mode D S k u w)

-- The second demand, as far as it speaks of Decide.
pub record SecondDemand (mode : Mode) (D S : Machine) (t s verdict rounds : ℕ) (slice : List ℕ) : Type 0 where
  -- "A full yes is said exactly if no run of these moves reaches a stuck pair or an unmet request."
  pub full_yes : mode ≡ Full → (verdict ≡ 1) ↔ Free D S t s
  -- the same of PADS itself: 000, definition 1
  pub schedulable : mode ≡ Full → (verdict ≡ 1) ↔ Schedulable (beside D S) (t, s)
  pub marks : MarksDemand mode D S slice
  -- "rounds, the highest mark written, 0 where all pairs are kept"
  pub highest : rounds ≡ max_below D.n (λ u. max_below S.n (λ w. mark_at S.n slice u w))
  -- "Rounds never exceed the count of struck pairs."
  pub few_rounds : rounds ≤ count_pairs D S (λ u w. not (eqb (mark_at S.n slice u w) 0))

-- The second demand, as far as it speaks of Run: "a no brings a run of that many slots".
pub record RunDemand (mode : Mode) (D S : Machine) (t s count : ℕ) (marks steps : List ℕ) : Type 0 where
  -- the slots of the run; "A step is supply row, task row."
  pub slots : List Candidate
  pub rows : take (2 * count) steps ≡ flat_map step_rows slots
  -- "Start marked 0: no steps. Else as many steps as the mark."
  pub many : length slots ≡ count
  pub start : count ≡ mark_at S.n marks t s
  pub marks_are : MarksDemand mode D S marks
  -- it is the run of document 01, to the row
  pub is_run : IsRun mode D S t s slots
  -- and leads by surviving moves to a blocked pair
  pub blocked : (count ≡ 0 → ⊥) → EndsBlocked D S t s slots

-- 02, L3: what the triples of the pair show, by both slices as they are left.
pub record ExplainDemand (mode : Mode) (D S : Machine) (t s count : ℕ) (marks triples : List ℕ) : Type 0 where
  -- the triples; each is written as "supply row, task row, mark of the pair they lead to"
  pub listed : List Triple
  pub entries : take (3 * count) triples ≡ flat_map triple_numbers listed
  -- "their count is returned"
  pub many : length listed ≡ count
  -- they are those of L3, to the row, each once, and they rise
  pub are_triples : AreTriples mode D S t s listed
  -- their marks are those that are written
  pub by_marks : listed ≡ triples_at mode (D.moves t) (S.moves s) (mark_at S.n marks) (mark_at S.n marks t s)
  -- "above mark 1 the listed marks force the pair's own"; of a kept pair all are 0, and every supply row is listed
  pub explains : Explains mode S s (mark_at S.n marks t s) listed
  -- "Marks are written as Decide writes them."
  pub marks_are : MarksDemand mode D S marks

-- ---- of the calls

-- what a call of Moves of a pair that is carried out promises, of its answer and of the slice at exit
pub record MovesDemands (file : List ℕ) (q : Question) (a : Answer) (slice : List ℕ) : Type 0 where
  pub second : (count : ℕ) → a ≡ carried_out (count ∷ [])
      → MovesDemand (demand_of file q) (supply_of file q) q.demand.state q.supply.state count slice

-- what a call of Decide that is carried out promises, of its answer and of the slice at exit
pub record DecideDemands (file : List ℕ) (q : Question) (mode : ℕ) (a : Answer) (slice : List ℕ) : Type 0 where
  pub second : (verdict kept rounds : ℕ) → a ≡ carried_out (verdict ∷ kept ∷ rounds ∷ [])
      → SecondDemand (mode_of mode) (demand_of file q) (supply_of file q) q.demand.state q.supply.state verdict rounds slice
  pub third : (verdict kept rounds : ℕ) → a ≡ carried_out (verdict ∷ kept ∷ rounds ∷ [])
      → ThirdDemand (mode_of mode) (demand_of file q) (supply_of file q) q.demand.state q.supply.state verdict kept slice

-- what a call of Run that is carried out promises, of its answer and of the slices at exit
pub record RunDemands (file : List ℕ) (q : Question) (mode : ℕ) (a : Answer) (marks steps : List ℕ) : Type 0 where
  pub second : (count : ℕ) → a ≡ carried_out (count ∷ [])
      → RunDemand (mode_of mode) (demand_of file q) (supply_of file q) q.demand.state q.supply.state count marks steps

-- what a call of Explain that is carried out promises, of its answer and of the slices at exit
pub record ExplainDemands (file : List ℕ) (q : Question) (mode : ℕ) (a : Answer) (marks triples : List ℕ) : Type 0 where
  pub explained : (count : ℕ) → a ≡ carried_out (count ∷ [])
      → ExplainDemand (mode_of mode) (demand_of file q) (supply_of file q) q.demand.state q.supply.state count marks triples
