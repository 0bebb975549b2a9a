-- What is recorded tells the next moment.
use Rattle.std.proofs.Common.{◌≡◌, ℕ, ◌+◌, ◌≤◌, Bool, List, [], ◌∷◌, ◌++◌, Option, None, Some, length, map, replicate, Contains, refl, sym, ap, subst, ◌∙◌, arith}
use Rattle.std.specs.Prelude.{IfSome, is_some}
use Rattle.std.proofs.lemmas.List.{map_push}
use Rattle.coflow_units.specs.Flows.{IsInstance}
use Rattle.master_core.specs.Published.{IsLeft}
use Rattle.online_text.specs.declared.value.Epoch.{Epoch}
use Rattle.replays.specs.declared.progress.Progress.{Progress}
use Rattle.replays.specs.declared.recording.Recording.{Recording}
use Rattle.rankers.specs.Meaning.{Meaning}
use Rattle.replays.specs.declared.kept.Kept.{Kept}
use Rattle.replays.specs.Kept.{Tells}
use Rattle.replays.specs.Moments.{first_moment, Input, Moment, Publishing, served_at, time_at}
use Rattle.replays.specs.Recorded.{epoch_told}
use Rattle.replays.specs.Recording.{BothRecorded, HasRoomFor, IsOrderRecorded, IsRunRecorded, TellsRecording}

-- in moments with the same publishings and the same slots
pub same_recording : (x : Input) (m next : Moment) (r : Option Recording) → next.publishings ≡ m.publishings → next.slots ≡ m.slots → TellsRecording x m r →
    TellsRecording x next r
same_recording x m next None published slots t = tt
same_recording x m next (Some r) published slots t = record {
  room = t.room;
  epochs_are = t.epochs_are ∙ ap (map (epoch_told x.table.ids)) (sym published);
  schedule_is = t.schedule_is ∙ sym slots;
}

pub both_some : (old new : Option Recording) (holds : Recording → Recording → Type 0) → BothRecorded old new holds → is_some new ≡ is_some old
both_some None None holds both = refl
both_some None (Some b) holds both = absurd both
both_some (Some a) None holds both = absurd both
both_some (Some a) (Some b) holds both = refl

-- a run more
pub run_recorded : (x : Input) (m : Moment) (count : ℕ) (flows : List ℕ) (old new : Option Recording) → BothRecorded old new (IsRunRecorded count flows) → TellsRecording x m old →
    TellsRecording x (served_at m count flows) new
run_recorded x m count flows None None both t = tt
run_recorded x m count flows None (Some b) both t = absurd both
run_recorded x m count flows (Some a) None both t = absurd both
run_recorded x m count flows (Some a) (Some b) both t = record {
  room = both.room x.table x.weights t.room;
  epochs_are = ap (λ v. v.items) both.epochs ∙ t.epochs_are;
  schedule_is = both.schedule ∙ ap (λ (s : List (List ℕ)). s ++ replicate count flows) t.schedule_is;
}

-- an order more
pub order_recorded : (x : Input) (m next : Moment) (p : Progress) (present : List Bool) (published : Publishing) (old new : Option Recording) →
    next.publishings ≡ m.publishings ++ published ∷ [] → next.slots ≡ m.slots → p.time ≡ published.time → IsInstance published.left →
    IsLeft published.left x.table.flows p.left.items x.weights present x.table.ports → ((c : ℕ) → Contains published.line c → Contains published.left.coflows c) →
    BothRecorded old new (IsOrderRecorded x.table p present published.line) → TellsRecording x m old → TellsRecording x next new
order_recorded x m next p present published None None one slots time inst left within both t = tt
order_recorded x m next p present published None (Some b) one slots time inst left within both t = absurd both
order_recorded x m next p present published (Some a) None one slots time inst left within both t = absurd both
order_recorded x m next p present published (Some a) (Some b) one slots time inst left within both t =
    let own = subst (λ w. IsLeft published.left x.table.flows p.left.items w present x.table.ports) (sym t.room.weights_are) left in
    let told = epoch_told x.table.ids in
    record {
      room = record {
        weights_are = both.room.weights_are ∙ t.room.weights_are;
        coflows = both.room.coflows;
        ports = both.room.ports;
        room = both.room.room;
        each_charge = both.room.each_charge;
      };
      epochs_are = both.epochs published.left inst own within ∙
          ap (λ (es : List Epoch). es ++ told record { time = p.time; left = published.left; line = published.line } ∷ []) t.epochs_are ∙
          ap (λ n. map told m.publishings ++ told record { time = n; left = published.left; line = published.line } ∷ []) time ∙
          sym (map_push told m.publishings published) ∙ ap (map told) (sym one);
      schedule_is = both.schedule ∙ t.schedule_is ∙ sym slots;
    }

-- what is recorded has as many slots as passed
pub short_recorded : (x : Input) (m : Moment) (n : ℕ) (r : Option Recording) → TellsRecording x m r → time_at m + n ≤ 2199023255551 →
    IfSome r (λ (own : Recording). length own.schedule + n ≤ 2199023255551)
short_recorded x m n None t short = tt
short_recorded x m n (Some r) t short = omega (arith, ap (λ (s : List (List ℕ)). length s) t.schedule_is, short)

-- before the first action
pub begins_recorded : (x : Input) (ranker : Meaning) (kept : Kept) (r : Recording) → Tells x (first_moment x ranker) kept → HasRoomFor x.table x.weights r → r.epochs.items ≡ [] →
    r.schedule ≡ [] →
    Tells x (first_moment x ranker) (record { progress = kept.progress; marks = kept.marks; line = kept.line; questions = kept.questions; recording = Some r })
begins_recorded x ranker kept r t room epochs schedule = record {
  progress = t.progress;
  marks = t.marks;
  each = t.each;
  line = t.line;
  fits = t.fits;
  published = t.published;
  recording = record { room = room; epochs_are = epochs; schedule_is = schedule };
}
