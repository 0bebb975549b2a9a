-- What the poster keeps of which ports have an unsettled post, and of which count words it knows.
use Rattle.std.proofs.Common.{◌≡◌, ◌≢◌, ℕ, zero, suc, ◌+◌, ◌*◌, ◌-◌, ◌<◌, ◌≤◌, eqb, List, [], ◌∷◌, ◌++◌, length, get_or, set, sym, refl, ap, ◌∙◌, subst, ⊎_elim, arith, Option}
use Rattle.std.proofs.Common.{Some, None, Bool, true, false, not, true≢false, ◌||◌, length-set, length-append, get_or-set_other, get_or-set_same, ne_eqb}
use Rattle.std.specs.Prelude.{Contains, replicate}
use Rattle.std.proofs.lemmas.List.{length-replicate, get_or_default}
use Rattle.std.proofs.lemmas.List.Elements.{Contains-push, Contains-append_left}
use Rattle.std.proofs.lemmas.Bool.{cond-false}
use mathlib.Core.Logic.{dite}
use native.Mathlib.Decide.{ℕ_discrete}
use Rattle.atomic_table.specs.Seated.{TableId}
use Rattle.port_board.specs.declared.view.Grant.{Grant}
use Rattle.port_board.specs.declared.view.Settlement.{Settlement}
use Rattle.port_board.specs.declared.view.View.{View}
use Rattle.port_board.specs.declared.view.Step.TheVariants.{Rests}
use Rattle.port_board.specs.Views.{IsPoster, settlement, is_of, last_at, is_settled, is_left, is_unsettled, settled_if, settled_as, posted_too, looked, takes_in, came_of, Tried}
use Rattle.port_board.specs.Views.{IsHeld, agents_out}
use Rattle.port_board.specs.declared.answer.Settled.{Settled}
use Rattle.port_board.specs.declared.answer.Settled.TheVariants.{Sent, TakenBack, Busy}
use Rattle.coflow_units.specs.PortWord.{shows_granted}
use Rattle.port_board.proofs.Lists.{last_is, last_pushed, is_of-same, is_of-false, any_pushed}
use Rattle.port_board.proofs.AgentSteps.{M}

abbrev pub Flags : List Bool → List Grant → List Settlement → Type 0
Flags flags posts settled = (q : ℕ) → get_or flags q false ≡ is_unsettled q posts settled

-- each number above 0 is the one by which the last post of its port was settled
abbrev pub Numbers : List ℕ → View → Type 0
Numbers counts v = (q : ℕ) → 0 < get_or counts q 0 → IsHeld q (get_or counts q 0) v

abbrev pub PosterFits : ℕ → List Bool → List ℕ → ℕ → M → Type 0
PosterFits agents flags counts words m = (m.1 ≡ []) × (m.0.step ≡ Rests) × IsPoster m.0.kind × (length m.0.back + agents ≡ m.0.made) × (length flags + length flags ≡ words) ×
    Flags flags m.0.posts m.0.settled × (length counts ≡ length flags) × Numbers counts m.0

-- one number is changed, and what holds of the others stays
numbers_set : (counts : List ℕ) (port number : ℕ) (v w : View) → port < length counts → Numbers counts v → (0 < number → IsHeld port number w) →
    ((q n : ℕ) → q ≢ port → IsHeld q n v → IsHeld q n w)
    → Numbers (set counts port number) w
numbers_set counts port number v w inside was here rest q = dite (ℕ_discrete q port)
    (λ e. subst (λ (z : ℕ). 0 < get_or (set counts port number) z 0 → IsHeld z (get_or (set counts port number) z 0) w) (sym e)
    (subst (λ (z : ℕ). 0 < z → IsHeld port z w) (sym (get_or-set_same counts port number 0 inside)) here))
    (λ other. subst (λ (z : ℕ). 0 < z → IsHeld q z w) (sym (get_or-set_other counts port q number 0 other)) (λ known. rest q (get_or counts q 0) other (was q known)))

-- a post at another port
held_posted : (port : ℕ) (g : Grant) (v : View) (q n : ℕ) → g.port ≡ port → q ≢ port → IsHeld q n v → IsHeld q n (posted_too g v)
held_posted port g v q n at other h = (
  h.0,
  last_pushed q v.posts g ∙ (cond-false (eqb g.port q) (Some g) (last_at q v.posts) (ne_eqb g.port q (λ e. other (sym e ∙ at))) ∙ h.1),
  h.2,
)

pub flags_posted : (flags : List Bool) (port : ℕ) (posts : List Grant) (settled : List Settlement) (g : Grant) → g.port ≡ port → port < length flags → Flags flags posts settled →
    is_unsettled port (posts ++ g ∷ []) settled ≡ true
    → Flags (set flags port true) (posts ++ g ∷ []) settled
flags_posted flags port posts settled g at inside was new q = dite (ℕ_discrete q port)
    (λ e. subst (λ (z : ℕ). get_or (set flags port true) z false ≡ is_unsettled z (posts ++ g ∷ []) settled) (sym e) (get_or-set_same flags port true false inside ∙ sym new))
    (λ other. get_or-set_other flags port q true false other
    ∙ (was q ∙ ap (λ (o : Option Grant). is_left o settled)
    (sym (last_pushed q posts g ∙ cond-false (eqb g.port q) (Some g) (last_at q posts) (ne_eqb g.port q (λ e. other (sym e ∙ at)))))))

some_is : (posts : List Grant) (settled : List Settlement) (port : ℕ) (o : Option Grant) → last_at port posts ≡ o → is_left o settled ≡ true →
    (g : Grant) × (last_at port posts ≡ Some g) × (g.port ≡ port)
some_is posts settled port None e left = absurd (true≢false (sym left))
some_is posts settled port (Some g) e left = (g, e, (last_is (λ _. Unit {0}) port g posts (λ _ _ _. tt) e).1)

-- a settlement at another port changes nothing
same_left : (q port : ℕ) (o : Option Grant) (posts : List Grant) (settled : List Settlement) (y : Settlement) → last_at q posts ≡ o → y.grant.port ≡ port → q ≢ port →
    is_left o settled ≡ is_left o (settled ++ y ∷ [])
same_left q port None posts settled y e at other = refl
same_left q port (Some g) posts settled y e at other =
    let here = (last_is (λ _. Unit {0}) q g posts (λ _ _ _. tt) e).1 in
    let far = is_of-false g.port g.slot y.grant (λ pe _. other (sym here ∙ (sym pe ∙ at))) in
    ap not (sym (any_pushed (λ (s : Settlement). is_of g.port g.slot s.grant) settled y ∙ (ap (λ z. is_settled g settled || z) far ∙ or_none (is_settled g settled))))
  where
    or_none : (b : Bool) → (b || false) ≡ b
    or_none true = refl
    or_none false = refl

pub flags_settled : (flags : List Bool) (port : ℕ) (posts : List Grant) (settled : List Settlement) (sent : Option ℕ) → port < length flags → Flags flags posts settled →
    is_unsettled port posts settled ≡ true
    → Flags (set flags port false) posts (settled_if (last_at port posts) sent settled)
flags_settled flags port posts settled sent inside was left q =
    let t = some_is posts settled port (last_at port posts) refl left in
    let g : Grant = t.0 in
    let y : Settlement = settlement g sent in
    subst (λ (o : Option Grant). get_or (set flags port false) q false ≡ is_unsettled q posts (settled_if o sent settled)) (sym t.1)
    (dite (ℕ_discrete q port)
    (λ e. subst (λ (z : ℕ). get_or (set flags port false) z false ≡ is_unsettled z posts (settled ++ y ∷ [])) (sym e)
    (get_or-set_same flags port false false inside
    ∙ sym (ap (λ (o : Option Grant). is_left o (settled ++ y ∷ [])) t.1
    ∙ ap not (any_pushed (λ (s : Settlement). is_of g.port g.slot s.grant) settled y ∙
    (ap (λ z. is_settled g settled || z) (is_of-same g.port g.slot g refl refl) ∙ or_all (is_settled g settled))))))
    (λ other. get_or-set_other flags port q false false other ∙ (was q ∙ same_left q port (last_at q posts) posts settled y refl t.2 other)))
  where
    or_all : (b : Bool) → (b || true) ≡ true
    or_all true = refl
    or_all false = refl

-- one more settlement leaves those that were, and is the one by which the last post of its port was settled
more_held : (o : Option Grant) (sent : Option ℕ) (settled : List Settlement) (y : Settlement) → Contains settled y → Contains (settled_if o sent settled) y
more_held None sent settled y h = h
more_held (Some g) sent settled y h = Contains-append_left settled (settlement g sent ∷ []) y h

now_held : (port n : ℕ) (sent : Option ℕ) (v : View) → is_unsettled port v.posts v.settled ≡ true → sent ≡ Some n → IsHeld port n (settled_as port sent v)
now_held port n sent v left is =
    let t = some_is v.posts v.settled port (last_at port v.posts) refl left in (
      t.0,
      t.1,
      subst (λ (u : Option Grant × Option ℕ). Contains (settled_if u.0 u.1 v.settled) (settlement t.0 (Some n))) (λ i. (sym t.1 i, sym is i))
          (Contains-push v.settled (settlement t.0 (Some n))),
    )

-- the same for another table and another view
pub carry_poster : (agents : ℕ) (flags : List Bool) (counts : List ℕ) (t u : TableId) (m k : M) → u ≡ t → k ≡ m → PosterFits agents flags counts t.words m →
    PosterFits agents flags counts u.words k
carry_poster agents flags counts t u m k a b h = subst (λ (z : TableId × M). PosterFits agents flags counts z.0.words z.1) (λ i. (sym a i, sym b i)) h

pub settled_cases : (P : Settled → Type 0) (r : Settled) → ((n : ℕ) → r ≡ Sent n → P (Sent n)) → (r ≡ TakenBack → P TakenBack) → ((w : ℕ) → r ≡ Busy w → P (Busy w)) → P r
settled_cases P (Sent n) sent taken busy = sent n refl
settled_cases P TakenBack sent taken busy = taken refl
settled_cases P (Busy w) sent taken busy = busy w refl

-- what holds of a view, whatever its looks are, holds at the last look of a settling
pub tried_is : (P : View → Type 0) (port : ℕ) (old before : View) → P old → ((w : ℕ) → P (looked port w old)) → Tried port old before → P before
tried_is P port old before one two t =
    ⊎_elim (λ (e : before ≡ old). subst P (sym e) one) (λ (e : (w : ℕ) × (shows_granted w ≡ true) × (before ≡ looked port w old)). subst P (sym e.2) (two e.0)) t

pub after_settled : (agents : ℕ) (flags : List Bool) (counts : List ℕ) (words : ℕ) (m k : M) (port place n word number : ℕ) (sent : Option ℕ) (before : View) →
    PosterFits agents flags counts words m → k.1 ≡ [] → Tried port m.0 before → port < length flags → is_unsettled port m.0.posts m.0.settled ≡ true →
    (0 < number → sent ≡ Some number)
    → k.0 ≡ looked place n (settled_as port sent (looked port word before)) → PosterFits agents (set flags port false) (set counts port number) words k
after_settled agents flags counts words m k port place n word number sent before ok none tried inside left is e =
    let long = length-set flags port false in
    let many = length-set counts port number in
    let fits = PosterFits agents (set flags port false) (set counts port number) words in
    let P : View → Type 0 = λ b. fits (looked place n (settled_as port sent (looked port word b)), []) in
    let flags' = flags_settled flags port m.0.posts m.0.settled sent inside ok.5 left in
    let words_is : length (set flags port false) + length (set flags port false) ≡ words = let w = ok.4 in omega arith in
    let many_is : length (set counts port number) ≡ length (set flags port false) = let w = ok.6 in omega arith in
    let numbers' : Numbers (set counts port number) (settled_as port sent m.0) =
    numbers_set counts port number m.0 (settled_as port sent m.0) (let w = ok.6 in omega arith) ok.7 (λ some. now_held port number sent m.0 left (is some))
    (λ q x _ h. (h.0, h.1, more_held (last_at port m.0.posts) sent m.0.settled (settlement h.0 (Some x)) h.2)) in
    let all : fits (settled_as port sent m.0, []) = (refl, refl, ok.2, ok.3, words_is, flags', many_is, numbers') in
    subst fits (λ i. (sym e i, sym none i)) (tried_is P port m.0 before all (λ _. all) tried)

pub after_busy : (agents : ℕ) (flags : List Bool) (counts : List ℕ) (words : ℕ) (m k : M) (port word : ℕ) (before : View) → PosterFits agents flags counts words m → k.1 ≡ [] →
    Tried port m.0 before → port < length flags → is_unsettled port m.0.posts m.0.settled ≡ true → k.0 ≡ looked port word before
    → PosterFits agents (set flags port true) (set counts port 0) words k
after_busy agents flags counts words m k port word before ok none tried inside left e =
    let long = length-set flags port true in
    let many = length-set counts port 0 in
    let fits = PosterFits agents (set flags port true) (set counts port 0) words in
    let P : View → Type 0 = λ b. fits (looked port word b, []) in
    let flags' : Flags (set flags port true) m.0.posts m.0.settled = λ q. dite (ℕ_discrete q port)
    (λ e. subst (λ (z : ℕ). get_or (set flags port true) z false ≡ is_unsettled z m.0.posts m.0.settled) (sym e) (get_or-set_same flags port true false inside ∙ sym left))
    (λ other. get_or-set_other flags port q true false other ∙ ok.5 q) in
    let words_is : length (set flags port true) + length (set flags port true) ≡ words = let w = ok.4 in omega arith in
    let many_is : length (set counts port 0) ≡ length (set flags port true) = let w = ok.6 in omega arith in
    let numbers' : Numbers (set counts port 0) m.0 = numbers_set counts port 0 m.0 m.0 (let w = ok.6 in omega arith) ok.7 (λ some. absurd (omega arith)) (λ _ _ _ h. h) in
    let all : fits (m.0, []) = (refl, ok.1, ok.2, ok.3, words_is, flags', many_is, numbers') in
    subst fits (λ i. (sym e i, sym none i)) (tried_is P port m.0 before all (λ _. all) tried)

pub after_post : (agents : ℕ) (flags : List Bool) (counts : List ℕ) (words : ℕ) (m : M) (port : ℕ) (g : Grant) → PosterFits agents flags counts words m → g.port ≡ port →
    port < length flags → is_unsettled port (m.0.posts ++ g ∷ []) m.0.settled ≡ true
    → PosterFits agents (set flags port true) (set counts port 0) words (posted_too g m.0, m.1)
after_post agents flags counts words m port g ok at inside new =
    let long = length-set flags port true in
    let many = length-set counts port 0 in
    let w = ok.4 in
    let u = ok.6 in
    let numbers' = numbers_set counts port 0 m.0 (posted_too g m.0) (omega arith) ok.7 (λ some. absurd (omega arith)) (λ q n other h. held_posted port g m.0 q n at other h) in
    (ok.0, refl, ok.2, ok.3, omega arith, flags_posted flags port m.0.posts m.0.settled g at inside ok.5 new, omega arith, numbers')

-- the seats out after one came back
pub after_back : (agents : ℕ) (flags : List Bool) (counts : List ℕ) (words place word : ℕ) (m : M) (w : View) → PosterFits agents flags counts words m → 1 ≤ agents →
    PosterFits (agents - 1) flags counts words (looked place word (takes_in m.0 w), m.1)
after_back agents flags counts words place word m w ok some_out =
    let long = length-append m.0.back (came_of w ∷ []) in
    let was = ok.3 in
    (ok.0, ok.1, ok.2, omega arith, ok.4, ok.5, ok.6, ok.7)

pub some_out : (agents : ℕ) (flags : List Bool) (counts : List ℕ) (words : ℕ) (m : M) (w : View) → PosterFits agents flags counts words m →
    length (m.0.back ++ came_of w ∷ []) ≤ m.0.made → 1 ≤ agents
some_out agents flags counts words m w ok most = let long = length-append m.0.back (came_of w ∷ []) in let was = ok.3 in omega arith

pub one_fewer : (agents : ℕ) (flags : List Bool) (counts : List ℕ) (words : ℕ) (m : M) (w : View) → PosterFits agents flags counts words m → 1 ≤ agents →
    agents_out (takes_in m.0 w) + 1 ≡ agents_out m.0
one_fewer agents flags counts words m w ok out = let long = length-append m.0.back (came_of w ∷ []) in let was = ok.3 in omega arith

pub all_same : {A : Type 0} (a : A) (n i : ℕ) → get_or (replicate n a) i a ≡ a
all_same a zero i = refl
all_same a (suc n) zero = refl
all_same a (suc n) (suc i) = all_same a n i

-- the words of a new board
pub new_words : (words : List ℕ) (ports : ℕ) → words ≡ replicate (2 * ports) 0 → (length words ≡ ports + ports) × ((i : ℕ) → get_or words i 0 ≡ 0)
new_words words ports e = (ap (λ (l : List ℕ). length l) e ∙ (length-replicate (2 * ports) 0 ∙ omega arith), λ i. ap (λ (l : List ℕ). get_or l i 0) e ∙ all_same 0 (2 * ports) i)

pub new_flags : (flags : List Bool) (ports : ℕ) → flags ≡ replicate ports false → (length flags ≡ ports) × ((q : ℕ) → get_or flags q false ≡ false)
new_flags flags ports e = (ap (λ (l : List Bool). length l) e ∙ length-replicate ports false, λ q. ap (λ (l : List Bool). get_or l q false) e ∙ all_same false ports q)

-- a port of the board is one that the poster keeps
pub port_in : (port len board : ℕ) (t u : TableId) → port < board → len + len ≡ t.words → t ≡ u → u.words ≡ board + board → port < len
port_in port len board t u lt l same w = let words : t.words ≡ u.words = ap (λ (z : TableId). z.words) same in omega arith

-- a number that the poster reads of a port is the one by which the port's last post was settled
pub number_held : (agents : ℕ) (flags : List Bool) (counts : List ℕ) (words : ℕ) (m : M) (port found long : ℕ) → PosterFits agents flags counts words m → port < length flags →
    found ≡ get_or counts port found → found ≡ long → 1 ≤ long
    → IsHeld port long m.0
number_held agents flags counts words m port found long ok inside read same least =
    let many = ok.6 in
    let is : get_or counts port 0 ≡ long = get_or_default counts port 0 found (omega arith) ∙ (sym read ∙ same) in
    subst (λ (z : ℕ). 0 < z → IsHeld port z m.0) is (ok.7 port) (omega arith)
