-- What the parser makes of one word.
use Rattle.std.proofs.Common.{◌≡◌, ℕ, ◌<◌, suc, List, [], ◌∷◌, Option, Some, None, Bool, true, false, refl, length, arith}
use Rattle.std.specs.Prelude.{slice_get}
use Rattle.std.specs.Str.{bytes_eq, chars}
use Rattle.std.proofs.lemmas.Bool.{and_right}
use Rattle.std.proofs.lemmas.Slice.Eq.{bytes_eq-Decides}
use Rattle.clap.specs.Words.{Kinds, Row, Text}
use Rattle.clap.specs.Kinds.{or_else}
use Rattle.clap.specs.Lexer.{long_of, short_of}
use Rattle.clap.specs.Walk.{Walk, arg_by_long, has_row, option, settled, walked}
use Rattle.clap.specs.Faults.{settle_fault, turn_fault}
use Rattle.clap.specs.declared.error.kind.ErrorKind.TheVariants as kind
use Rattle.clap.proofs.OnLiterals.{clap_on_literals}
use Rattle.command_words.proofs.ParserState.{held, ready, rules, shape, trails, waits}
use Rattle.command_words.proofs.ParserArguments.{IsArgument, IsName, IsOption, clash, put}

pub record IsPlain (w : Text) : Type 0 where
  pub long : long_of w ≡ None
  pub short : short_of w ≡ None
  pub ends : bytes_eq w (45 ∷ 45 ∷ []) ≡ false

or_else_none : (a : Kinds) → or_else a [] ≡ a
or_else_none [] = refl
or_else_none (k ∷ ks) = refl

-- ---- names

pub name_turn : (k : ℕ) (id : Text) → IsName k id → (rows : List Row) (p : Option (Text × List Text)) (w : Text) → IsPlain w →
    turn_fault shape [] (ready rows p k) w ≡ settle_fault rules false (held rows p)
unfolding clap_on_literals
name_turn k id n rows None w i = rw (i.ends, i.long, i.short, n.by_index) refl
name_turn k id n rows (Some p) w i = rw (i.ends, i.long, i.short, n.by_index, and_right (bytes_eq p.0 id) false refl) refl

pub name_walk : (k : ℕ) (id : Text) → IsName k id → (rows : List Row) (p : Option (Text × List Text)) (w : Text) → IsPlain w →
    walked rules [] (ready rows p k) w ≡ ready (settled rules (held rows p)).rows (Some (id, w ∷ [])) (suc k)
unfolding clap_on_literals
name_walk k id n rows None w i = rw (i.ends, i.long, i.short, n.by_index, n.next) refl
name_walk k id n rows (Some p) w i = rw (i.ends, i.long, i.short, n.by_index, and_right (bytes_eq p.0 id) false refl, n.next) refl

-- Behind `--` each word is a name.
pub trail_turn : (k : ℕ) (id : Text) → IsName k id → (rows : List Row) (p : Option (Text × List Text)) (w : Text) →
    turn_fault shape [] (trails rows p k) w ≡ settle_fault rules false (held rows p)
unfolding clap_on_literals
trail_turn k id n rows None w = rw n.by_index refl
trail_turn k id n rows (Some p) w = rw (n.by_index, and_right (bytes_eq p.0 id) false refl) refl

pub trail_walk : (k : ℕ) (id : Text) → IsName k id → (rows : List Row) (p : Option (Text × List Text)) (w : Text) →
    walked rules [] (trails rows p k) w ≡ trails (settled rules (held rows p)).rows (Some (id, w ∷ [])) (suc k)
unfolding clap_on_literals
trail_walk k id n rows None w = rw (n.by_index, n.next) refl
trail_walk k id n rows (Some p) w = rw (n.by_index, and_right (bytes_eq p.0 id) false refl, n.next) refl

-- A fourth name is one too many.
pub name_4 : (rows : List Row) (p : Option (Text × List Text)) (w : Text) → IsPlain w → turn_fault shape [] (ready rows p 4) w ≡ kind.UnknownArgument ∷ []
unfolding clap_on_literals
name_4 rows p w i = rw (i.ends, i.long, i.short) refl

pub trail_4 : (rows : List Row) (p : Option (Text × List Text)) (w : Text) → turn_fault shape [] (trails rows p 4) w ≡ kind.UnknownArgument ∷ []
unfolding clap_on_literals
trail_4 rows p w = refl

pub ends_turn : (rows : List Row) (p : Option (Text × List Text)) (k : ℕ) → turn_fault shape [] (ready rows p k) (45 ∷ 45 ∷ []) ≡ []
unfolding clap_on_literals
ends_turn rows p k = refl

pub ends_walk : (rows : List Row) (p : Option (Text × List Text)) (k : ℕ) → walked rules [] (ready rows p k) (45 ∷ 45 ∷ []) ≡ trails rows p k
unfolding clap_on_literals
ends_walk rows p k = refl

-- ---- options

-- The word names the option, and has its value or has none.
pub record Names (w o : Text) (v : Option Text) : Type 0 where
  pub long : long_of w ≡ Some (o, v)
  pub ends : bytes_eq w (45 ∷ 45 ∷ []) ≡ false

pub joined_turn : (o : Text) → IsOption o → (rows : List Row) (p : Option (Text × List Text)) (k : ℕ) (w v : Text) → Names w o (Some v)
    → turn_fault shape [] (ready rows p k) w ≡ or_else (settle_fault rules false (held rows p)) (clash o (settled rules (held rows p)).rows)
unfolding clap_on_literals
joined_turn o i rows p k w v n = by (has_row o (settled rules (held rows p)).rows) refl
  where
    by : (b : Bool) → has_row o (settled rules (held rows p)).rows ≡ b →
        turn_fault shape [] (ready rows p k) w ≡ or_else (settle_fault rules false (held rows p)) (clash o (settled rules (held rows p)).rows)
    by true e = rw (n.ends, n.long, i.by_long, e) (or_else_none _)
    by false e = rw (n.ends, n.long, i.by_long, e) (or_else_none _)

pub joined_walk : (o : Text) → IsOption o → (rows : List Row) (p : Option (Text × List Text)) (k : ℕ) (w v : Text) → Names w o (Some v)
    → walked rules [] (ready rows p k) w ≡ ready (put (o, v) (settled rules (held rows p)).rows) None k
unfolding clap_on_literals
joined_walk o i rows p k w v n = rw (n.ends, n.long, i.by_long) refl

pub apart_turn : (o : Text) → IsOption o → (rows : List Row) (p : Option (Text × List Text)) (k : ℕ) (w : Text) → Names w o None
    → turn_fault shape [] (ready rows p k) w ≡ settle_fault rules false (held rows p)
unfolding clap_on_literals
apart_turn o i rows p k w n = rw (n.ends, n.long, i.by_long) (or_else_none (settle_fault rules false (held rows p)))

pub apart_walk : (o : Text) → IsOption o → (rows : List Row) (p : Option (Text × List Text)) (k : ℕ) (w : Text) → Names w o None
    → walked rules [] (ready rows p k) w ≡ waits (settled rules (held rows p)).rows o k
unfolding clap_on_literals
apart_walk o i rows p k w n = rw (n.ends, n.long, i.by_long) refl

-- The value of the option before it.
pub value_turn : (o : Text) (rows : List Row) (k : ℕ) (w : Text) → IsPlain w → turn_fault shape [] (waits rows o k) w ≡ []
unfolding clap_on_literals
value_turn o rows k w i = rw (i.ends, i.long, i.short) refl

pub value_walk : (o : Text) → IsArgument o → (rows : List Row) (k : ℕ) (w : Text) → IsPlain w → walked rules [] (waits rows o k) w ≡ ready rows (Some (o, w ∷ [])) k
unfolding clap_on_literals
value_walk o a rows k w i = rw (i.ends, i.long, i.short, a.by_id, (bytes_eq-Decides o o).1 refl) refl

-- ---- an option that waits is given no value

-- A first kind of fault is told.
abbrev pub Fails : Walk → Text → Type 0
Fails walk w = (f : _) × (fs : Kinds) × (turn_fault shape [] walk w ≡ f ∷ fs)

pub joined_late : (o : Text) → IsOption o → (x : Text) → IsArgument x → (rows : List Row) (k : ℕ) (w v : Text) → Names w o (Some v) → Fails (waits rows x k) w
unfolding clap_on_literals
joined_late o i x a rows k w v n = (kind.InvalidValue, [], rw (n.ends, n.long, i.by_long, a.by_id) refl)

pub apart_late : (o : Text) → IsOption o → (x : Text) → IsArgument x → (rows : List Row) (k : ℕ) (w : Text) → Names w o None → Fails (waits rows x k) w
unfolding clap_on_literals
apart_late o i x a rows k w n = (kind.InvalidValue, [], rw (n.ends, n.long, i.by_long, a.by_id) refl)

-- The option waits for its value behind `--`.
abbrev pub late : List Row → Text → ℕ → Walk
late rows o k = record (trails rows (Some (o, [])) k) { waiting = option o }

pub late_walk : (rows : List Row) (o : Text) (k : ℕ) → walked rules [] (waits rows o k) (45 ∷ 45 ∷ []) ≡ late rows o k
unfolding clap_on_literals
late_walk rows o k = refl

pub late_name : (k : ℕ) (id : Text) → IsName k id → (o : Text) → IsArgument o → (rows : List Row) (w : Text) → Fails (late rows o k) w
unfolding clap_on_literals
late_name k id n o a rows w = (kind.InvalidValue, [], rw (n.by_index, and_right (bytes_eq o id) false refl, a.by_id) refl)

pub late_4 : (rows : List Row) (o w : Text) → Fails (late rows o 4) w
unfolding clap_on_literals
late_4 rows o w = (kind.UnknownArgument, [], refl)

-- ---- words that are refused

pub unknown_ready : (o : Text) → arg_by_long rules o ≡ None → (v : Option Text) (rows : List Row) (p : Option (Text × List Text)) (k : ℕ) (w : Text) → Names w o v →
    Fails (ready rows p k) w
unfolding clap_on_literals
unknown_ready o none v rows p k w n = (kind.UnknownArgument, [], rw (n.ends, n.long, none) refl)

pub unknown_late : (o : Text) → arg_by_long rules o ≡ None → (v : Option Text) (rows : List Row) (x : Text) (k : ℕ) (w : Text) → Names w o v → Fails (waits rows x k) w
unfolding clap_on_literals
unknown_late o none v rows x k w n = (kind.UnknownArgument, [], rw (n.ends, n.long, none) refl)

-- The word is one dash and a text of characters. No argument is named by one.
pub record IsShort (w : Text) : Type 0 where
  pub flags : Text
  pub character : ℕ
  pub long : long_of w ≡ None
  pub ends : bytes_eq w (45 ∷ 45 ∷ []) ≡ false
  pub short : short_of w ≡ Some flags
  pub some : 0 < length flags
  pub first : slice_get (chars flags) 0 ≡ Some character

pub short_ready : (rows : List Row) (p : Option (Text × List Text)) (k : ℕ) (w : Text) → IsShort w → Fails (ready rows p k) w
unfolding clap_on_literals
short_ready rows p k w s = (kind.UnknownArgument, [], by s.flags s.character s.some s.short s.first)
  where
    by : (flags : Text) (x : ℕ) → 0 < length flags → short_of w ≡ Some flags → slice_get (chars flags) 0 ≡ Some x →
        turn_fault shape [] (ready rows p k) w ≡ kind.UnknownArgument ∷ []
    by [] x some e c = absurd (omega arith)
    by (b ∷ flags) x some e c = rw (s.ends, s.long, e, c) refl

pub short_late : (rows : List Row) (y : Text) (k : ℕ) (w : Text) → IsShort w → Fails (waits rows y k) w
unfolding clap_on_literals
short_late rows y k w s = (kind.UnknownArgument, [], by s.flags s.character s.some s.short s.first)
  where
    by : (flags : Text) (x : ℕ) → 0 < length flags → short_of w ≡ Some flags → slice_get (chars flags) 0 ≡ Some x →
        turn_fault shape [] (waits rows y k) w ≡ kind.UnknownArgument ∷ []
    by [] x some e c = absurd (omega arith)
    by (b ∷ flags) x some e c = rw (s.ends, s.long, e, c) refl
