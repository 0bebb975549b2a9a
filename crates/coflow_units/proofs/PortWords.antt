-- Port words: each stands for one stage, slot and flow.
use Rattle.std.proofs.Common.{◌≡◌, ◌≢◌, ℕ, ◌+◌, ◌/◌, arith, refl, true, eq-eqb, eqb-true}
use Rattle.coflow_units.specs.PortWord.{PortStage, word_of, FitsWord, shows_granted, shows_drawn, shows_reported, slot_of, flow_of}
use Rattle.coflow_units.specs.PortWord.PortStage.{unposted, granted, drawn, reported, taken_back}

-- the stages told apart
abbrev pub IsUnposted : PortStage → Type 0
IsUnposted unposted = Unit {0}
IsUnposted _ = ⊥

abbrev pub IsGranted : PortStage → Type 0
IsGranted granted = Unit {0}
IsGranted _ = ⊥

abbrev pub IsDrawn : PortStage → Type 0
IsDrawn (drawn j) = Unit {0}
IsDrawn _ = ⊥

abbrev pub IsReported : PortStage → Type 0
IsReported (reported j n) = Unit {0}
IsReported _ = ⊥

abbrev pub IsTaken : PortStage → Type 0
IsTaken taken_back = Unit {0}
IsTaken _ = ⊥

abbrev pub drawer : PortStage → ℕ
drawer (drawn j) = j
drawer _ = 0

abbrev pub reporter : PortStage → ℕ
reporter (reported j n) = j
reporter _ = 0

abbrev pub units : PortStage → ℕ
units (reported j n) = n
units _ = 0

pub slot_of-granted : (slot flow : ℕ) → FitsWord slot flow → slot_of (word_of granted slot flow) ≡ slot
slot_of-granted slot flow f = omega (arith, f.0, f.1)

pub flow_of-granted : (slot flow : ℕ) → FitsWord slot flow → flow_of (word_of granted slot flow) ≡ flow
flow_of-granted slot flow f = omega (arith, f.0, f.1)

pub slot_of-reported : (a n slot flow : ℕ) → FitsWord slot flow → slot_of (word_of (reported a n) slot flow) ≡ slot
slot_of-reported a n slot flow f = omega (arith, f.0, f.1)

-- the word of a post that was not taken back has its slot and its flow
pub shows_post : (x : PortStage) (slot flow : ℕ) → FitsWord slot flow → x ≢ unposted → x ≢ taken_back →
    (slot_of (word_of x slot flow) ≡ slot) × (flow_of (word_of x slot flow) ≡ flow)
shows_post unposted slot flow f posted kept = absurd (posted refl)
shows_post granted slot flow f posted kept = (omega (arith, f.0, f.1), omega (arith, f.0, f.1))
shows_post (drawn j) slot flow f posted kept = (omega (arith, f.0, f.1), omega (arith, f.0, f.1))
shows_post (reported j n) slot flow f posted kept = (omega (arith, f.0, f.1), omega (arith, f.0, f.1))
shows_post taken_back slot flow f posted kept = absurd (kept refl)

-- only a granted post has a granted word
pub granted_only : (x : PortStage) (k f at g : ℕ) → FitsWord k f → FitsWord at g → word_of x k f ≡ word_of granted at g → (x ≡ granted) × (k ≡ at) × (f ≡ g)
granted_only unposted k f at g a b e = absurd (omega (arith, a.0, a.1, b.0, b.1, e))
granted_only granted k f at g a b e = (refl, omega (arith, a.0, a.1, b.0, b.1, e), omega (arith, a.0, a.1, b.0, b.1, e))
granted_only (drawn j) k f at g a b e = absurd (omega (arith, a.0, a.1, b.0, b.1, e))
granted_only (reported j n) k f at g a b e = absurd (omega (arith, a.0, a.1, b.0, b.1, e))
granted_only taken_back k f at g a b e = absurd (omega (arith, a.0, a.1, b.0, b.1, e))

pub shows_granted-granted : (slot flow : ℕ) → FitsWord slot flow → shows_granted (word_of granted slot flow) ≡ true
shows_granted-granted slot flow f = eq-eqb (word_of granted slot flow / 2305843009213693952) 1 (omega (arith, f.0, f.1))

pub shows_drawn-drawn : (a slot flow : ℕ) → FitsWord slot flow → shows_drawn (word_of (drawn a) slot flow) ≡ true
shows_drawn-drawn a slot flow f = eq-eqb (word_of (drawn a) slot flow / 2305843009213693952) 2 (omega (arith, f.0, f.1))

pub shows_reported-reported : (a n slot flow : ℕ) → FitsWord slot flow → shows_reported (word_of (reported a n) slot flow) ≡ true
shows_reported-reported a n slot flow f = eq-eqb (word_of (reported a n) slot flow / 2305843009213693952) 3 (omega (arith, f.0, f.1))

-- what a word shows is the stage
pub stage_is : (x : PortStage) (k f state : ℕ) → FitsWord k f → word_of x k f / 2305843009213693952 ≡ state →
    (state ≡ 1 → x ≡ granted) × (state ≡ 2 → (j : ℕ) × (x ≡ drawn j)) × (state ≡ 3 → (j m : ℕ) × (x ≡ reported j m))
stage_is unposted k f state a e = ((λ s. absurd (omega (arith, a.0, a.1, e, s))), (λ s. absurd (omega (arith, a.0, a.1, e, s))), (λ s. absurd (omega (arith, a.0, a.1, e, s))))
stage_is granted k f state a e = ((λ s. refl), (λ s. absurd (omega (arith, a.0, a.1, e, s))), (λ s. absurd (omega (arith, a.0, a.1, e, s))))
stage_is (drawn j) k f state a e = ((λ s. absurd (omega (arith, a.0, a.1, e, s))), (λ s. (j, refl)), (λ s. absurd (omega (arith, a.0, a.1, e, s))))
stage_is (reported j n) k f state a e = ((λ s. absurd (omega (arith, a.0, a.1, e, s))), (λ s. absurd (omega (arith, a.0, a.1, e, s))), (λ s. (j, n, refl)))
stage_is taken_back k f state a e = ((λ s. absurd (omega (arith, a.0, a.1, e, s))), (λ s. absurd (omega (arith, a.0, a.1, e, s))), (λ s. absurd (omega (arith, a.0, a.1, e, s))))

-- a drawn word has what the granted one has, and the stage that follows
pub draws_the_word : (word a slot flow : ℕ) → shows_granted word ≡ true → slot ≡ slot_of word → flow ≡ flow_of word →
    word_of (drawn a) slot flow ≡ word + 2305843009213693952
draws_the_word word a slot flow shown at of =
    let one : word / 2305843009213693952 ≡ 1 = eqb-true _ 1 shown in
    omega (arith, one, at, of)
