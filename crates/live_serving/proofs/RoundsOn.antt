-- One round more.
use Rattle.std.proofs.Common.{◌≡◌, ℕ, ◌+◌, ◌<◌, ◌≤◌, ◌==◌, Bool, true, false, List, [], ◌∷◌, ◌++◌, length, length-append}
use Rattle.std.proofs.Common.{get_or, refl, sym, ap, subst, ◌∙◌, arith}
use Rattle.std.specs.Prelude.{All, if◌then◌else◌}
use Rattle.std.proofs.lemmas.List.{map-append}
use Rattle.std.proofs.lemmas.List.Elements.{All-append, All-cons, All-nil, All-weaker}
use Rattle.journal.specs.declared.opening.Opening.{Opening}
use Rattle.workload.specs.declared.script.Round.{Round}
use Rattle.client_session.specs.Levels.{IsLevel}
use Rattle.client_session.specs.Models.{DriverModel, SessionModel}
use Rattle.client_session.specs.Own.{OwnEntry}
use Rattle.live_model.specs.Levels.{IsSpellBetween, Levels}
use Rattle.live_model.specs.Rounds.{Spell}
use Rattle.live_model.specs.Script.{slot_rounds_from}
use Rattle.live_rounds.specs.declared.answer.PullDone.{PullDone}
use Rattle.live_rounds.specs.Acts.{Act, pulls_in}
use Rattle.live_rounds.specs.Rounds.{IsRoundDone}
use Rattle.live_rounds.proofs.Acting.{acted_none, stays}
use Rattle.live_rounds.specs.Drivers.{AreOpenings}
use Rattle.live_rounds.specs.Told.{acts_of}
use Rattle.live_rounds.proofs.DriversTold.{none_opened}
use Rattle.live_serving.specs.Driven.{HasDriven, StandsAfter}
use Rattle.live_serving.specs.Followed.{AreBegun, AreFollowed, pulls_for, told_from}
use Rattle.live_serving.specs.Rounds.{AreLevelAt, AreRoundsDone}
use Rattle.live_serving.proofs.LevelsOn.{cut, cut_high, cut_low, cut_rises, greatest, greatest_is_over, greatest_over, greatest_within, IsDoneBy, levels_on, Lies, slots_more}
use Rattle.live_serving.proofs.FollowedOn.{all_followed, HasSeen, IsHigh, IsLow, seen_on}
use Rattle.live_serving.proofs.RoundPulls.{round_pulls, told_on}

-- ---- the record of the rounds

pub still_spells : (levels : Levels) (n position version : ℕ) (spells : List Spell) → All (λ (s : Spell). s.round < n) spells → All (IsSpellBetween levels) spells →
    All (IsSpellBetween (levels_on levels n position version)) spells
still_spells levels n position version spells done h = λ i d lt.
    let s = get_or spells i d in
    let low = done i d lt in
    let x = h i d lt in record {
      above = omega (arith, cut_low levels.position n position s.round (omega (arith, low)), x.above);
      within = omega (arith, cut_low levels.position n position (s.round + 1) (omega (arith, low)), x.within);
    }

pub beside_spells : (levels : Levels) (n position version low high : ℕ) (spells : List Spell) → levels.position n ≡ low → high ≤ position →
    All (λ (s : Spell). s.round ≡ n) spells → All (StandsAfter low high) spells → All (IsSpellBetween (levels_on levels n position version)) spells
beside_spells levels n position version low high spells is le rounds stand = λ i d lt.
    let s = get_or spells i d in
    let e : s.round ≡ n = rounds i d lt in
    let x = stand i d lt in
    let first = ap (cut levels.position n position) e in
    let next = ap (λ m. cut levels.position n position (m + 1)) e in record {
      above = omega (arith, x.0, is, first, cut_low levels.position n position n (omega arith));
      within = omega (arith, x.1, le, next, cut_high levels.position n position (n + 1) (omega arith));
    }

level_on : (levels : Levels) (n version : ℕ) (driver new : DriverModel) (olds news : List SessionModel) → AreLevelAt levels n driver olds → driver.position ≤ new.position →
    levels.version n ≤ version → All (λ (s : SessionModel). s.position ≡ new.position) news → All (HasSeen version) news →
    AreLevelAt (levels_on levels n new.position version) (n + 1) new news
level_on levels n version driver new olds news h later newer one seen =
    let here = h.position_is n (omega arith) in
    let behind = cut_high levels.version n version (n + 1) (omega arith) in
    record {
      positions = cut_rises levels.position n new.position h.positions (omega (arith, here, later));
      versions = cut_rises levels.version n version h.versions newer;
      position_is = λ m le. cut_high levels.position n new.position m (omega (arith, le));
      version_is = λ m le. cut_high levels.version n version m (omega (arith, le)) ∙ sym behind;
      one = one;
      seen = All-weaker (HasSeen version) (HasSeen (cut levels.version n version (n + 1))) (λ s le. omega (arith, le, behind)) news seen;
    }

pub round_done : (o : Opening) (most calls : ℕ) (rounds : List Round) (r : Round) (driver mid new : DriverModel) (olds mids news : List SessionModel) (pulls more : List PullDone) →
    AreRoundsDone most calls rounds driver olds pulls → IsRoundDone o r.lines olds mids more → HasDriven most (length rounds) r.runs driver mid → IsLevel mid new mids news →
    AreRoundsDone most calls (rounds ++ r ∷ []) new news (pulls ++ more)
round_done o most calls rounds r driver mid new olds mids news pulls told_more h done driven level =
    let n = length rounds in
    let levels = h.levels in
    let version = greatest (levels.version n) mids in
    let next = levels_on levels n new.position version in
    let long : length (rounds ++ r ∷ []) ≡ n + 1 = length-append rounds (r ∷ []) in
    let here = h.level.position_is n (omega arith) in
    let later = driven.opened.later in
    let raised = level.longest.0 in
    let low : All (IsLow levels n) olds = λ i d lt. (omega (arith, here, h.level.one i d lt), h.level.seen i d lt) in
    let over = greatest_is_over (levels.version n) mids in
    let high : All (IsHigh new.position version) mids = λ i d lt. (level.longest.1 i d lt, over i d lt) in
    let clients = all_followed o levels rounds r calls 1 new.position version olds mids news h.told done.played h.clients done.each done.none_stopped level.raised low high in
    let before = seen_on o r.lines 1 (levels.version n) olds mids news done.played done.each level.raised h.level.seen in
    let seen : All (HasSeen version) news = λ i d lt. greatest_within (levels.version n) (get_or news i d).rank.seen mids (before i d lt) (level.newest i d lt) in
    let journal : new.journal ≡ mid.journal = ap (λ (x : DriverModel). x.journal) level.driver_is in
    let spells = h.spells in
    let more = driven.more in
    let first : 0 + n ≡ n = omega arith in
    let round_of = λ (s : Spell). s.round in
    record {
      levels = next;
      told = clients.0;
      spells = spells ++ more;
      level = subst (λ k. AreLevelAt next k new news) (sym long)
          (level_on levels n version driver new olds news h.level (omega (arith, later, raised)) (greatest_over (levels.version n) mids) level.one seen);
      clients = clients.1;
      pulls_are = λ k. told_on h.told clients.0 done.played pulls told_more n k (h.pulls_are k) (clients.2 k)
          (ap (pulls_for k) done.pulls_are ∙ round_pulls o r.lines 1 k olds mids done.played done.each done.none_stopped);
      openings = subst (λ l. AreOpenings most l (spells ++ more)) (sym journal) (driven.opened.openings spells h.openings);
      rounds_done = All-append (λ (s : Spell). s.round < length (rounds ++ r ∷ [])) spells more
          (All-weaker (λ (s : Spell). s.round < n) (λ (s : Spell). s.round < length (rounds ++ r ∷ [])) (λ s lt. omega (arith, lt, long)) spells h.rounds_done)
          (All-weaker (λ (s : Spell). s.round ≡ n) (λ (s : Spell). s.round < length (rounds ++ r ∷ [])) (λ s e. omega (arith, e, long)) more driven.opened.rounds_are);
      between = All-append (IsSpellBetween next) spells more (still_spells levels n new.position version spells h.rounds_done h.between)
          (beside_spells levels n new.position version driver.position mid.position more here raised driven.opened.rounds_are driven.opened.stand);
      slot_rounds_are = map-append round_of spells more ∙ (λ i. h.slot_rounds_are i ++ driven.as_asked i)
          ∙ sym (slots_more 0 rounds r ∙ ap (λ m. slot_rounds_from 0 rounds ++ (if r.runs then m ∷ [] else [])) first);
    }

-- ---- before the first round

abbrev no_levels : Levels
no_levels = record { position = λ n. 0; version = λ n. 0 }

nothing_here : (rest : List (ℕ × Act)) (b : Bool) → rest ≡ [] → (if b then [] else rest) ≡ []
nothing_here rest true e = refl
nothing_here rest false e = e

begun_followed : (calls client : ℕ) (ss : List SessionModel) → AreBegun calls client ss →
    (told : List (List (ℕ × Act))) × AreFollowed no_levels [] calls client ss told × All (λ (s : SessionModel). s.position ≡ 0) ss
    × ((k : ℕ) → told_from client told k ≡ [])
begun_followed calls client [] h = ([], tt, All-nil (λ (s : SessionModel). s.position ≡ 0), λ k. refl)
begun_followed calls client (s ∷ ss) h =
    let b = h.0 in
    let more = begun_followed calls (client + 1) ss h.1 in (
      [] ∷ more.0,
      (
        record {
          first = s;
          new = b.new;
          acted = acted_none s s (stays s) refl refl (omega arith) (omega arith);
          number = b.number;
          calls_are = omega (arith, b.left, ap (λ (l : List OwnEntry). length l) b.new.own);
          lines = refl;
          rounds_done = All-nil (IsDoneBy 0);
          between = All-nil (Lies no_levels);
        },
        more.1,
      ),
      All-cons (λ (x : SessionModel). x.position ≡ 0) s ss b.position more.2,
      λ k. nothing_here (told_from (client + 1) more.0 k) (client == k) (more.3 k),
    )

pub none_done : (most calls : ℕ) (driver : DriverModel) (sessions : List SessionModel) → driver.journal ≡ [] → driver.position ≡ 0 → AreBegun calls 1 sessions →
    AreRoundsDone most calls [] driver sessions []
none_done most calls driver sessions empty start begun =
    let b = begun_followed calls 1 sessions begun in record {
      levels = no_levels;
      told = b.0;
      spells = [];
      level = record {
        positions = λ n m le. omega arith;
        versions = λ n m le. omega arith;
        position_is = λ n le. sym start;
        version_is = λ n le. refl;
        one = λ i d lt. b.2 i d lt ∙ sym start;
        seen = λ i d lt. omega arith;
      };
      clients = b.1;
      pulls_are = λ k. ap (λ t. pulls_in (acts_of t)) (sym (b.3 k));
      openings = subst (λ l. AreOpenings most l []) (sym empty) (none_opened most);
      rounds_done = All-nil (λ (s : Spell). s.round < 0);
      between = All-nil (IsSpellBetween no_levels);
      slot_rounds_are = refl;
    }
