-- What the master of a closed hall is.
use Rattle.std.proofs.Common.{◌≡◌, ◌≢◌, ℕ, ◌+◌, ◌<◌, ◌≤◌, inl, inr, Some, List, [], ◌∷◌, ◌++◌, length, map, drop, refl, sym, ap, ◌∙◌, subst, arith, length-append, append_assoc}
use Rattle.std.specs.Prelude.{All, AllPairs, Contains}
use Rattle.std.proofs.lemmas.Bool.{cases_eq}
use Rattle.std.proofs.lemmas.List.Elements.{All-append, All-contains, All-cons, All-head, All-nil, All-tail}
use Rattle.std.proofs.lemmas.List.Elements.{Contains-append_cases, Contains-append_left, Contains-append_right, Contains-push, Contains-push_cases}
use Rattle.turnstile.specs.declared.view.Returned.{Returned}
use Rattle.turnstile.specs.Histories.{GoesOn, NoneAbove, NoneBy}
use Rattle.turnstile.specs.Models.{EachCameBack, GoesOnForEach, RootModel, SeatModel as TurnSeatModel, takes_back}
use Rattle.journal.specs.declared.command.Entry.{Entry}
use Rattle.journal.specs.declared.opening.Opening.{Opening}
use Rattle.journal.specs.Journal.{version_of}
use Rattle.master_core.specs.Master.{MasterFacts}
use Rattle.client_session.specs.declared.desk.Setting.{Setting}
use Rattle.client_session.specs.Closes.{HasEnded, IsClosed, IsOfCaller, StandsAt}
use Rattle.client_session.specs.Desk.{IsSeen}
use Rattle.client_session.specs.Drivers.{GrownByOthers, who_of}
use Rattle.client_session.specs.Models.{DriverModel, HallModel, SessionModel}
use Rattle.client_session.specs.Own.{own_entries, own_entry, OwnEntry}
use Rattle.client_session.specs.Returns.{AreReturned, IsReturned, IsRootOf}
use Rattle.client_session.specs.Desk.{WasMet}
use Rattle.client_session.proofs.Driving.{all_right, alone}
use Rattle.client_session.proofs.OwnSteps.{own_same}
use Rattle.client_session.proofs.Standing.{is_own, note_is_true, own_rise, own_stand}

abbrev pub Back : Type 0
Back = Returned Entry

-- one more session came back
pub returned_more : (ss : List SessionModel) (ps : List Back) (s : SessionModel) (p : Back) → AreReturned ss ps → IsReturned s p → AreReturned (ss ++ s ∷ []) (ps ++ p ∷ [])
returned_more [] [] s p h r = (r, tt)
returned_more [] (q ∷ qs) s p h r = absurd h
returned_more (t ∷ ts) [] s p h r = absurd h
returned_more (t ∷ ts) (q ∷ qs) s p h r = (h.0, returned_more ts qs s p h.1 r)

pub same_count : (ss : List SessionModel) (ps : List Back) → AreReturned ss ps → length ss ≡ length ps
same_count [] [] h = refl
same_count [] (q ∷ qs) h = absurd h
same_count (t ∷ ts) [] h = absurd h
same_count (t ∷ ts) (q ∷ qs) h = let n = same_count ts qs h.1 in omega (arith, n)

each_ended : (P : Back → Type 0) (R Q : SessionModel → Type 0) → ((s : SessionModel) (p : Back) → IsReturned s p → P p → R s → Q s) → (ss : List SessionModel) (ps : List Back) →
    AreReturned ss ps → All P ps → All R ss → All Q ss
each_ended P R Q step [] [] h all each = All-nil Q
each_ended P R Q step [] (q ∷ qs) h all each = absurd h
each_ended P R Q step (t ∷ ts) [] h all each = absurd h
each_ended P R Q step (t ∷ ts) (q ∷ qs) h all each =
    All-cons Q t ts (step t q h.0 (All-head P q qs all) (All-head R t ts each)) (each_ended P R Q step ts qs h.1 (All-tail P q qs all) (All-tail R t ts each))

the_session : (ss : List SessionModel) (ps : List Back) (p : Back) → AreReturned ss ps → Contains ps p → (s : SessionModel) × Contains ss s × IsReturned s p
the_session [] [] p h in' = absurd (omega (arith, in'.1))
the_session [] (q ∷ qs) p h in' = absurd h
the_session (t ∷ ts) [] p h in' = absurd h
the_session (t ∷ ts) (q ∷ qs) p h in' = elim (Contains-append_cases (q ∷ []) qs p in') [
  | inl first ↦ elim (Contains-push_cases [] q p first) [
    | inl none ↦ absurd (omega (arith, none.1))
    | inr same ↦ (t, Contains-append_left (t ∷ []) ts t (Contains-push [] t), subst (λ x. IsReturned t x) same h.0)
  ]
  | inr later ↦ let r = the_session ts qs p h.1 later in (r.0, Contains-append_right (t ∷ []) ts r.0 r.1, r.2)
]

-- a journal that went on by others, and then further
pub grown_on : (a b c : List Entry) → GrownByOthers a b → GoesOn who_of c 0 b → GrownByOthers a c
grown_on a b c first then = (
  first.0 ++ then.0,
  then.1 ∙ (ap (λ l. l ++ then.0) first.1 ∙ append_assoc a first.0 then.0),
  All-append (λ e. who_of e ≢ 0) first.0 then.0 first.2 then.2,
)

-- one more seat came back to a root
pub root_more : (first old new : RootModel Entry Setting) (seat : TurnSeatModel Entry Setting) → old ≡ record first { seen = old.seen; back = old.back } →
    new ≡ takes_back old seat → new ≡ record first { seen = new.seen; back = new.back }
root_more first old new seat was takes =
    subst (λ (r : RootModel Entry Setting). r ≡ record first { seen = r.seen; back = r.back }) (sym takes) (ap (λ (r : RootModel Entry Setting).
    record r { seen = (takes_back old seat).seen; back = (takes_back old seat).back }) was)

-- an entry of the caller 0 stands before all that others added
own_within : (mine others before more : List Entry) (e : Entry) → mine ++ others ≡ before ++ e ∷ more → NoneBy who_of 0 others → e.who ≡ 0 → length before < length mine
own_within [] others before more e is none zero = absurd (
    All-head (λ x. who_of x ≢ 0) e more (right before (e ∷ more) (subst (NoneBy who_of 0) is none)) zero)
  where
    right : (xs ys : List Entry) → NoneBy who_of 0 (xs ++ ys) → NoneBy who_of 0 ys
    right [] ys h = h
    right (x ∷ xs) ys h = right xs ys (All-tail (λ x. who_of x ≢ 0) x (xs ++ ys) h)
own_within (x ∷ mine) others [] more e is none zero = omega arith
own_within (x ∷ mine) others (y ∷ before) more e is none zero =
    let rest : mine ++ others ≡ before ++ e ∷ more = ap (drop 1) is in
    let lt = own_within mine others before more e rest none zero in omega (arith, lt)

long_enough : (journal seen : List Entry) (number : ℕ) → GoesOn who_of journal number seen → length seen ≤ length journal
long_enough journal seen number h = omega (arith, ap (λ (l : List Entry). length l) h.1, length-append seen h.0)

module _ (o : Opening) (setting : Setting) (journal : List Entry) (opening : setting.opening ≡ o) (coflows : setting.board.coflows ≡ length o.table.ids)
    (seen : IsSeen o journal) where
  abbrev IsReady : SessionModel → Type 0
  IsReady s = (s.setting ≡ Some setting) × WasMet o journal s.rank

  ended : (s : SessionModel) (p : Back) → IsReturned s p → GoesOn who_of journal p.number p.seen → IsReady s → HasEnded o journal s
  ended s p back goes ready =
      let of = ready.0 in
      let met = ready.1 in
      let own : s.own ≡ own_entries s.number journal =
      sym back.own ∙ sym (own_same s.number journal p.seen (subst (λ n. GoesOn who_of journal n p.seen) back.number goes)) in
      let stand : All (StandsAt journal s.number) s.own = subst (All (StandsAt journal s.number)) (sym own) (own_stand s.number journal) in
      record {
        own = own;
        stands = stand;
        rising = subst (λ (l : List OwnEntry). AllPairs (λ (a b : OwnEntry). a.position < b.position) l) (sym own) (own_rise s.number journal);
        notes = λ i d lt.
            let ranked = met.1 i d lt in
            note_is_true o journal s.number s.own _ seen.legal stand (back.notes.pass.between i d lt) ranked.0
            (ranked.1 (omega (arith, back.notes.coflow setting of i d lt, coflows)));
        position = omega (arith, back.position, long_enough journal p.seen p.number goes);
        version = met.0;
      }

  pub all_ended : (ss : List SessionModel) (ps : List Back) → AreReturned ss ps → GoesOnForEach who_of journal ps → All IsReady ss → All (HasEnded o journal) ss
  all_ended ss ps back goes ready = each_ended (λ (p : Back). GoesOn who_of journal p.number p.seen) IsReady (HasEnded o journal) ended ss ps back goes ready

met_each : (o : Opening) (journal : List Entry) (ss : List SessionModel) → All (WasMet o journal) (map (λ (s : SessionModel). s.rank) ss) →
    All (λ (s : SessionModel). WasMet o journal s.rank) ss
met_each o journal [] h = All-nil (λ (s : SessionModel). WasMet o journal s.rank)
met_each o journal (s ∷ ss) h =
    let ranks = map (λ (x : SessionModel). x.rank) ss in
    All-cons (λ (x : SessionModel). WasMet o journal x.rank) s ss (All-head (WasMet o journal) s.rank ranks h) (met_each o journal ss (All-tail (WasMet o journal) s.rank ranks h))

module _ (hall : HallModel) (driver : DriverModel) (sessions : List SessionModel) (root met_root : RootModel Entry Setting)
    (is_root : IsRootOf driver root) (moved : met_root ≡ record root { seen = met_root.seen; back = met_root.back }) (goes : GoesOn who_of met_root.seen 0 root.seen)
    (back : AreReturned sessions met_root.back) (few : length met_root.back ≤ met_root.made) (all : driver.made ≤ length sessions) where
  made_is : met_root.made ≡ driver.made
  made_is = ap (λ (r : RootModel Entry Setting). r.made) moved ∙ is_root.made

  -- all sessions came back, and no more
  pub all_back : met_root.made ≡ length met_root.back
  all_back = omega (arith, few, all, made_is, same_count sessions met_root.back back)

  module _ (journal : List Entry) (closed_root : GoesOn who_of journal 0 met_root.seen) (closed_seats : GoesOnForEach who_of journal met_root.back)
      (numbers : EachCameBack met_root.made met_root.back) (others : NoneAbove who_of met_root.made journal) (seen : IsSeen hall.setting.opening journal)
      (coflows : hall.setting.board.coflows ≡ length hall.setting.opening.table.ids) (of : All (λ (s : SessionModel). s.setting ≡ Some hall.setting) sessions)
      (met : All (WasMet hall.setting.opening journal) (map (λ (s : SessionModel). s.rank) sessions)) where
    begins : GrownByOthers driver.journal journal
    begins = grown_on driver.journal met_root.seen journal (grown_on driver.journal root.seen met_root.seen is_root.grown goes) closed_root

    above : NoneAbove who_of driver.made journal
    above = subst (λ m. NoneAbove who_of m journal) made_is others

    each : All (HasEnded hall.setting.opening journal) sessions
    each =
        let ranks = met_each hall.setting.opening journal sessions met in
        all_ended hall.setting.opening hall.setting journal refl coflows seen sessions met_root.back back closed_seats (λ i d lt. (of i d lt, ranks i d lt))

    of_number : (number : ℕ) → 0 < number → number ≤ driver.made → (s : SessionModel) × Contains sessions s × (s.number ≡ number)
    of_number number some low =
        let p = numbers number some (omega (arith, low, made_is)) in
        let s = the_session sessions met_root.back p.0 back p.1 in
        (s.0, s.1, sym s.2.number ∙ p.2)

    of_caller : (before more : List Entry) (e : Entry) → journal ≡ before ++ e ∷ more → IsOfCaller driver sessions before e
    of_caller before more e is = elim (cases_eq e.who 0) [
      | inl zero ↦ inl (zero, own_within driver.journal begins.0 before more e (sym begins.1 ∙ is) begins.2 zero)
      | inr some ↦
          let low : e.who ≤ driver.made =
          All-head (λ x. who_of x ≤ driver.made) e more (all_right driver.made before (e ∷ more) (subst (NoneAbove who_of driver.made) is above)) in
          let s = of_number e.who (omega (arith, some)) low in
          let ended : HasEnded hall.setting.opening journal s.0 = All-contains (HasEnded hall.setting.opening journal) sessions s.0 each s.1 in
          let own : own_entries e.who (before ++ e ∷ more) ≡ s.0.own = (λ i. own_entries (sym s.2 i) (sym is i)) ∙ sym ended.own in
          let here = own_entry (length before + 1) (version_of (before ++ e ∷ [])) e.command e.reply in
          inr (s.0, s.1, s.2, subst (λ (l : List OwnEntry). Contains l here) own (is_own before more e))
    ]

    pub hall_closed : (master : MasterFacts) → master.opening ≡ hall.setting.opening → master.journal ≡ journal → IsClosed hall driver sessions master
    hall_closed master opening is = subst (λ (m : MasterFacts). IsClosed hall driver sessions m) (λ i. record { opening = sym opening i; journal = sym is i }) (record {
      opening = refl;
      seen = seen;
      begins = begins;
      alone = λ zero. alone driver.journal journal driver.made begins above zero;
      position = omega (arith, is_root.position, long_enough met_root.seen root.seen 0 goes, long_enough journal met_root.seen 0 closed_root);
      given = omega (arith, made_is, all_back, same_count sessions met_root.back back);
      ended = each;
      numbers = of_number;
      entries = of_caller;
    })
