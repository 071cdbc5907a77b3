-- Facts that a law gives together, under the names of a contract's clauses.
module _ {A B : Type 0} where
  pub as_answer_slice : A × B → record { answer : A; slice : B }
  as_answer_slice p = record { answer = p.0; slice = p.1 }

  pub as_answer_bytes : A × B → record { answer : A; bytes : B }
  as_answer_bytes p = record { answer = p.0; bytes = p.1 }

  pub as_answer_demands : A × B → record { answer : A; demands : B }
  as_answer_demands p = record { answer = p.0; demands = p.1 }

module _ {A B C : Type 0} where
  pub as_answer_slice_demands : A × (B × C) → record { answer : A; slice : B; demands : C }
  as_answer_slice_demands p = record { answer = p.0; slice = p.1.0; demands = p.1.1 }

module _ {A B C D : Type 0} where
  pub as_answer_marks_steps_demands : A × (B × (C × D)) → record { answer : A; marks : B; steps : C; demands : D }
  as_answer_marks_steps_demands p = record { answer = p.0; marks = p.1.0; steps = p.1.1.0; demands = p.1.1.1 }

  pub as_answer_marks_triples_demands : A × (B × (C × D)) → record { answer : A; marks : B; triples : C; demands : D }
  as_answer_marks_triples_demands p = record { answer = p.0; marks = p.1.0; triples = p.1.1.0; demands = p.1.1.1 }
