-- What a ranker means: a list of numbers that it holds, and what it makes of questions and notes.
use Rattle.std.specs.Prelude.{ℕ, List, [], ◌∷◌}
use Rattle.rankers.specs.FactsTold.{FactsTold}

-- The name; the list held; the answer to a list held and the facts; the list held after a question; and the list held
-- after a note of a coflow and a slot.
pub record Meaning : Type 0 where
  pub name : List ℕ
  pub held : List ℕ
  pub answer : List ℕ → FactsTold → List ℕ
  pub asked : List ℕ → FactsTold → List ℕ
  pub noted : List ℕ → ℕ → ℕ → List ℕ

-- the same ranker, holding another list
abbrev pub holding : Meaning → List ℕ → Meaning
holding m held = record { name = m.name; held = held; answer = m.answer; asked = m.asked; noted = m.noted }

-- what it answers to the facts as it is
abbrev pub answer_of : Meaning → FactsTold → List ℕ
answer_of m facts = m.answer m.held facts

-- it was asked
abbrev pub after_question : Meaning → FactsTold → Meaning
after_question m facts = holding m (m.asked m.held facts)

-- it was told the slot in which a coflow ended
abbrev pub after_note : Meaning → ℕ → ℕ → Meaning
after_note m coflow slot = holding m (m.noted m.held coflow slot)

-- it was told the slots in which these coflows ended, one after another
abbrev pub after_notes : Meaning → (ℕ → ℕ) → List ℕ → Meaning
after_notes m end [] = m
after_notes m end (c ∷ cs) = after_notes (after_note m c (end c)) end cs
