-- What Decide answers and leaves meets the second and the third demand; the part on marks is Run's too. Relies on the laws of marks, of runs and
-- of Decide.
use Prim.Native.Nat.{ℕ, ◌≤◌, ◌<◌}
use mathlib.Core.Path.{◌≡◌, sym, ap, ◌∙◌, subst}
use mathlib.Core.Bool.{Bool, true, not, ◌&&◌, false}
use mathlib.Core.List.{List, [], ◌∷◌}
use native.Mathlib.Omega.{arith}
use lib.Dec.{T, ltb, ltb→lt, lt→ltb, eqb, eqb→eq}
use lib.ListN.{length, get_or}
use Rattle.rules.specs.declared.Mode.{Mode}
use Rattle.rules.specs.declared.Mode.TheVariants.{Full}
use Rattle.rules.specs.Below.{max_below, one, list_below}
use Rattle.rules.specs.Slices.{overwrite}
use Rattle.rules.specs.Machines.{Machine, Sound}
use Rattle.rules.specs.Relations.{Pairs, Passing, Meets}
use Rattle.rules.specs.Rounds.{KeptSet, mark, mark_at, marks, count_pairs, kept_count, struck_count, rounds}
use Rattle.rules.proofs.Booleans.{T_true, T_false, true-T, eq-T, and_i, and_l, and_r}
use Rattle.rules.proofs.BelowLaws.{count_cong, max_cong, one_same, length-list_below}
use Rattle.rules.proofs.RelationLaws.{holds_mono}
use Rattle.rules.proofs.RoundLaws.{below_pair}
use Rattle.rules.proofs.MarkLaws.{mark_zero, mark_round, kept_set_meets, kept_set_largest, rounds_struck}
use Rattle.rules.proofs.RunLaws.{kept_free, kept_schedulable}
use Rattle.tables.specs.declared.Refusal.{Refusal}
use Rattle.checker.specs.declared.Verdict.{Verdict}
use Rattle.tables.specs.Answers.{carried_out, slice_after}
use Rattle.tables.proofs.CheckLaws.{passed}
use Rattle.tables.specs.Checks.{Checked}
use Rattle.std.proofs.Common.{Result, Ok, ◌↔◌, refl}
use Rattle.marks.specs.Rounds.{HasMarks}
use Rattle.marks.proofs.RoundLaws.{has-marks}
use Rattle.questions.specs.declared.Question.{Question}
use Rattle.questions.specs.Pairs.{pair_checks, demand_of, supply_of}
use Rattle.questions.specs.Modes.{mode_of}
use Rattle.questions.proofs.PairLaws.{asked_demand, asked_supply, demand_sound, supply_sound}
use Rattle.checker.specs.Calls.{decided}
use Rattle.checker.specs.Decide.{decide_checks, decide_answer, decide_slice}
use Rattle.checker.specs.Demands.{KeptIn, MarksDemand, SecondDemand, ThirdDemand, ThirdDemandAll, DecideDemands}
use Rattle.checker.proofs.DecideLaws.{decide_asked}

-- ---- marks that are written

pub marks_demand : (mode : Mode) (D S : Machine) (slice : List ℕ) → HasMarks mode D S slice → MarksDemand mode D S slice
marks_demand mode D S slice marked = record {
  room = marked.room;
  struck = λ k u w l m. (
    λ e. (mark_round mode D S k u w).0 (sym (marked.each u w l m) ∙ e),
    λ r. marked.each u w l m ∙ (mark_round mode D S k u w).1 r,
  );
  kept = λ u w l m. (
    λ e. (mark_zero mode D S u w (below_pair D S u w l m)).0 (sym (marked.each u w l m) ∙ e),
    λ f. marked.each u w l m ∙ (mark_zero mode D S u w (below_pair D S u w l m)).1 f,
  );
}

-- ---- the kept set as a test

module _ (D S : Machine) (slice : List ℕ) where
  abbrev kept_test : ℕ → ℕ → Bool
  kept_test u w = ltb u D.n && (ltb w S.n && eqb (mark_at S.n slice u w) 0)

  test_kept : (u w : ℕ) → T (kept_test u w) → KeptIn D S slice u w
  test_kept u w p =
      let rest = and_r (ltb u D.n) (ltb w S.n && eqb (mark_at S.n slice u w) 0) p in (
        ltb→lt u D.n (and_l (ltb u D.n) (ltb w S.n && eqb (mark_at S.n slice u w) 0) p),
        ltb→lt w S.n (and_l (ltb w S.n) (eqb (mark_at S.n slice u w) 0) rest),
        eqb→eq (mark_at S.n slice u w) 0 (and_r (ltb w S.n) (eqb (mark_at S.n slice u w) 0) rest),
      )

  kept_test_lem : (u w : ℕ) → KeptIn D S slice u w → T (kept_test u w)
  kept_test_lem u w (l, k, e) =
      and_i (ltb u D.n) (ltb w S.n && eqb (mark_at S.n slice u w) 0) (lt→ltb u D.n l)
      (and_i (ltb w S.n) (eqb (mark_at S.n slice u w) 0) (lt→ltb w S.n k) (eq-T (mark_at S.n slice u w) 0 e))

  test_meets : (mode : Mode) → Meets mode D S (KeptIn D S slice) → Meets mode D S (Passing kept_test)
  test_meets mode m = record {
    below = λ u w p. ((test_kept u w p).0, (test_kept u w p).1);
    holds = λ u w p. holds_mono mode D S (KeptIn D S slice) (Passing kept_test) kept_test_lem u w (m.holds u w (test_kept u w p));
  }

-- a verdict other than no, exactly if some set that meets the definition holds the start pair
some_set : (mode : Mode) (D S : Machine) (t s verdict kept : ℕ) (slice : List ℕ) → ThirdDemand mode D S t s verdict kept slice
    → (verdict ≡ 0 → ⊥) ↔ ((R : ℕ → ℕ → Bool) × Meets mode D S (Passing R) × T (R t s))
some_set mode D S t s verdict kept slice h = (
  λ some. (kept_test D S slice, test_meets D S slice mode h.ours, held some (kept_test D S slice t s) refl),
  λ (R, m, r) e. h.no_exactly.0 e R m r,
)
  where
    held : (verdict ≡ 0 → ⊥) → (b : Bool) → kept_test D S slice t s ≡ b → T (kept_test D S slice t s)
    held some true e = rw e tt
    held some false e = absurd (some (h.no_exactly.1 (λ R m r. rw e at (kept_test_lem D S slice t s (h.rivals R m t s r)))))

-- ---- what a verdict and a slice tell

pub record Tells (mode : Mode) (D S : Machine) (t s verdict kept highest : ℕ) (slice : List ℕ) : Type 0 where
  pub start : (t < D.n) × (s < S.n)
  pub yes : verdict ≡ one (eqb (mark mode D S t s) 0)
  pub kept_are : kept ≡ kept_count mode D S
  pub rounds_are : highest ≡ rounds mode D S
  pub marked : HasMarks mode D S slice

module _ (mode : Mode) (D S : Machine) (t s verdict kept highest : ℕ) (slice : List ℕ) (h : Tells mode D S t s verdict kept highest slice) where
  to_kept : (u w : ℕ) → KeptSet mode D S u w → KeptIn D S slice u w
  to_kept u w (l, k, e) = (l, k, h.marked.each u w l k ∙ e)

  from_kept : (u w : ℕ) → KeptIn D S slice u w → KeptSet mode D S u w
  from_kept u w (l, k, e) = (l, k, sym (h.marked.each u w l k) ∙ e)

  kept_meets : Meets mode D S (KeptIn D S slice)
  kept_meets = record {
    below = λ u w m. (m.0, m.1);
    holds = λ u w m. holds_mono mode D S (KeptSet mode D S) (KeptIn D S slice) to_kept u w ((kept_set_meets mode D S).holds u w (from_kept u w m));
  }

  kept_counted : kept ≡ count_pairs D S (λ u w. eqb (mark_at S.n slice u w) 0)
  unfolding kept_count
  kept_counted =
      h.kept_are ∙ count_cong D S (λ u w. eqb (mark mode D S u w) 0) (λ u w. eqb (mark_at S.n slice u w) 0) (λ u w l k. ap (λ (x : ℕ). eqb x 0) (sym (h.marked.each u w l k)))

  -- a yes: the start is in the kept set
  yes_kept : verdict ≡ 1 → KeptIn D S slice t s
  yes_kept e = to_kept t s (h.start.0, h.start.1, eqb→eq (mark mode D S t s) 0 (true-T (eqb (mark mode D S t s) 0) (one_same (eqb (mark mode D S t s) 0) true (sym h.yes ∙ e))))

  kept_yes : KeptIn D S slice t s → verdict ≡ 1
  kept_yes m = h.yes ∙ ap one (T_true (eqb (mark mode D S t s) 0) (eq-T (mark mode D S t s) 0 (from_kept t s m).2))

  -- a no, from what a yes would imply
  no_from : (verdict ≡ 1 → ⊥) → verdict ≡ 0
  no_from f = h.yes ∙ ap one (T_false (eqb (mark mode D S t s) 0) (λ y. f (h.yes ∙ ap one (T_true (eqb (mark mode D S t s) 0) y))))

  rival_kept : (R : Pairs) → Meets mode D S R → (u w : ℕ) → R u w → KeptIn D S slice u w
  rival_kept R m u w r = to_kept u w (kept_set_largest mode D S R m u w r)

  pub third_all : ThirdDemandAll mode D S t s verdict kept slice
  third_all = record {
    room = h.marked.room;
    rivals = rival_kept;
    ours = kept_meets;
    count = kept_counted;
    no_exactly = (
      λ e R m r. (let one = kept_yes (rival_kept R m t s r) in omega arith),
      λ f. no_from (λ y. f (KeptIn D S slice) kept_meets (yes_kept y)),
    );
  }

  pub third : ThirdDemand mode D S t s verdict kept slice
  third = record {
    room = h.marked.room;
    rivals = λ R. rival_kept (Passing R);
    ours = kept_meets;
    count = kept_counted;
    no_exactly = (
      λ e R. third_all.no_exactly.0 e (Passing R),
      λ f. no_from (λ y. f (kept_test D S slice) (test_meets D S slice mode kept_meets) (kept_test_lem D S slice t s (yes_kept y))),
    );
  }

  -- the highest mark written
  highest_mark : highest ≡ max_below D.n (λ u. max_below S.n (λ w. mark_at S.n slice u w))
  unfolding rounds
  highest_mark =
      h.rounds_are
      ∙ max_cong D.n (λ u. max_below S.n (λ w. mark mode D S u w)) (λ u. max_below S.n (λ w. mark_at S.n slice u w))
      (λ u l. max_cong S.n (λ w. mark mode D S u w) (λ w. mark_at S.n slice u w) (λ w k. sym (h.marked.each u w l k)))

  few : highest ≤ count_pairs D S (λ u w. not (eqb (mark_at S.n slice u w) 0))
  unfolding struck_count
  few =
      let same = count_cong D S (λ u w. not (eqb (mark mode D S u w) 0)) (λ u w. not (eqb (mark_at S.n slice u w) 0)) (λ u w l k. ap (λ (x : ℕ). not (eqb x 0)) (sym (h.marked.each u w l k))) in
      let are = h.rounds_are in
      omega (arith, rounds_struck mode D S)

  pub second : Sound D → Sound S → SecondDemand mode D S t s verdict highest slice
  second sd ss = record {
    full_yes = λ e. (λ y. (kept_free D S sd ss t s h.start.0 h.start.1).0 (marked_0 e y), λ f. marked_yes e ((kept_free D S sd ss t s h.start.0 h.start.1).1 f));
    schedulable = λ e. (
      λ y. (kept_schedulable D S sd ss t s h.start.0 h.start.1).0 (marked_0 e y),
      λ f. marked_yes e ((kept_schedulable D S sd ss t s h.start.0 h.start.1).1 f),
    );
    marks = marks_demand mode D S slice h.marked;
    highest = highest_mark;
    few_rounds = few;
  }
    where
      marked_0 : mode ≡ Full → verdict ≡ 1 → mark Full D S t s ≡ 0
      marked_0 e y = subst (λ (m : Mode). mark m D S t s ≡ 0) e (from_kept t s (yes_kept y)).2

      marked_yes : mode ≡ Full → mark Full D S t s ≡ 0 → verdict ≡ 1
      marked_yes e z = kept_yes (to_kept t s (h.start.0, h.start.1, subst (λ (m : Mode). mark m D S t s ≡ 0) (sym e) z))

-- ---- of a call

module _ (file : List ℕ) (q : Question) (mode : ℕ) (entry exit : List ℕ) (left : exit ≡ decide_slice file q mode entry)
    (verdict kept highest : ℕ) (told : decide_answer file q mode (length entry) ≡ carried_out (verdict ∷ kept ∷ highest ∷ [])) where
  abbrev D : Machine
  D = demand_of file q

  abbrev S : Machine
  S = supply_of file q

  outcome : (decide_checks file q mode (length entry) ≡ Ok tt)
      × (one (eqb (mark (mode_of mode) D S q.demand.state q.supply.state) 0) ∷ kept_count (mode_of mode) D S ∷ rounds (mode_of mode) D S ∷ [] ≡ verdict ∷ kept ∷ highest ∷ [])
  unfolding decide_answer
  outcome = passed (decide_checks file q mode (length entry)) _ _ _ told

  asked : pair_checks file q ≡ Ok tt
  asked = decide_asked file q mode (length entry) outcome.0

  written : exit ≡ overwrite (marks (mode_of mode) D S) entry
  unfolding decide_slice slice_after
  written = left ∙ ap (λ (c : Checked). slice_after c (overwrite (marks (mode_of mode) D S) entry) entry) outcome.0

  tells : Tells (mode_of mode) D S q.demand.state q.supply.state verdict kept highest exit
  tells = record {
    start = ((asked_demand file q asked).state, (asked_supply file q asked).state);
    yes = sym (ap (λ (l : List ℕ). get_or l 0 0) outcome.1);
    kept_are = sym (ap (λ (l : List ℕ). get_or l 1 0) outcome.1);
    rounds_are = sym (ap (λ (l : List ℕ). get_or l 2 0) outcome.1);
    marked = has-marks (mode_of mode) D S entry written;
  }

  pub second_demand : SecondDemand (mode_of mode) D S q.demand.state q.supply.state verdict highest exit
  second_demand =
      second (mode_of mode) D S q.demand.state q.supply.state verdict kept highest exit tells
      (demand_sound file q asked) (supply_sound file q asked)

  pub third_demand : ThirdDemand (mode_of mode) D S q.demand.state q.supply.state verdict kept exit
  third_demand = third (mode_of mode) D S q.demand.state q.supply.state verdict kept highest exit tells

  -- for every predicate
  pub third_demand_all : ThirdDemandAll (mode_of mode) D S q.demand.state q.supply.state verdict kept exit
  third_demand_all = third_all (mode_of mode) D S q.demand.state q.supply.state verdict kept highest exit tells

-- a yes, exactly if some set that meets the definition holds the pair that is asked about: the third demand, of whatever slice of this length is lent
pub yes_exactly : (file : List ℕ) (q : Question) (mode room verdict kept highest : ℕ)
    → decide_answer file q mode room ≡ carried_out (verdict ∷ kept ∷ highest ∷ [])
    → (verdict ≡ 0 → ⊥) ↔ ((R : ℕ → ℕ → Bool) × Meets (mode_of mode) (demand_of file q) (supply_of file q) (Passing R) × T (R q.demand.state q.supply.state))
yes_exactly file q mode room verdict kept highest told =
    some_set (mode_of mode) (demand_of file q) (supply_of file q) q.demand.state q.supply.state verdict kept _
    (third_demand file q mode (list_below room (λ i. 0)) _ refl verdict kept highest (rw (length-list_below {A = ℕ} (λ i. 0) room) told))

-- what Decide ensures, from its answer and the slice
pub demands : (file : List ℕ) (q : Question) (mode : ℕ) (entry exit : List ℕ) (r : Result Verdict Refusal)
    → (decided r ≡ decide_answer file q mode (length entry)) × (exit ≡ decide_slice file q mode entry)
    → (decided r ≡ decide_answer file q mode (length entry)) × ((exit ≡ decide_slice file q mode entry) × DecideDemands file q mode (decided r) exit)
demands file q mode entry exit r (told, left) = (
  told,
  (
    left,
    record {
      second = λ v k n e. second_demand file q mode entry exit left v k n (sym told ∙ e);
      third = λ v k n e. third_demand file q mode entry exit left v k n (sym told ∙ e);
    },
  ),
)
