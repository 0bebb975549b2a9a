use Rattle.std.proofs.Common.{arith, refl}
use Rattle.live_text.proofs.LineReading.{after_id, after_line, after_version, client_rest, id_rest, line_rest, version_rest}
use Rattle.live_text.proofs.lines.pull_of.Goals as goal

pub returns-in_default-field_then : goal.returns-in_default-field_then
returns-in_default-field_then c = λ p h e.
    let a = client_rest c.args.line.now c.in-Some.rest.now c.in-Some.client p (omega (arith, c.in-Some.ensures.1)) c.in-Some.ensures.3 c.in-Some.ensures.2 h e in
    c.in_default-field_then.ensures p.line (after_line p) (omega arith) (omega (arith, h.line_fits)) refl a

pub returns-in_default-field_then-2 : goal.returns-in_default-field_then-2
returns-in_default-field_then-2 c = λ p h e.
    let a = client_rest c.args.line.now c.in-Some.rest.now c.in-Some.client p (omega (arith, c.in-Some.ensures.1)) c.in-Some.ensures.3 c.in-Some.ensures.2 h e in
    let b = line_rest c.in-Some.rest.now c.in-Some-field_then.rest.now c.in-Some-field_then.number p (omega (arith, c.in-Some-field_then.ensures.1)) c.in-Some-field_then.ensures.3
    c.in-Some-field_then.ensures.2 h a in
    c.in_default-field_then-2.ensures p.id (after_id p) (omega arith) (omega (arith, h.id_fits)) refl b

pub returns-in_default-field_then-3 : goal.returns-in_default-field_then-3
returns-in_default-field_then-3 c = λ p h e.
    let a = client_rest c.args.line.now c.in-Some.rest.now c.in-Some.client p (omega (arith, c.in-Some.ensures.1)) c.in-Some.ensures.3 c.in-Some.ensures.2 h e in
    let b = line_rest c.in-Some.rest.now c.in-Some-field_then.rest.now c.in-Some-field_then.number p (omega (arith, c.in-Some-field_then.ensures.1)) c.in-Some-field_then.ensures.3
    c.in-Some-field_then.ensures.2 h a in
    let d = id_rest c.in-Some-field_then.rest.now c.in-Some-field_then-2.rest.now c.in-Some-field_then-2.id p (omega (arith, c.in-Some-field_then-2.ensures.1))
    c.in-Some-field_then-2.ensures.3 c.in-Some-field_then-2.ensures.2 h b in
    c.in_default-field_then-3.ensures p.version (after_version p) (omega arith) (omega (arith, h.version_fits)) refl d

pub returns-in_default-last_of : goal.returns-in_default-last_of
returns-in_default-last_of c = λ p h e.
    let a = client_rest c.args.line.now c.in-Some.rest.now c.in-Some.client p (omega (arith, c.in-Some.ensures.1)) c.in-Some.ensures.3 c.in-Some.ensures.2 h e in
    let b = line_rest c.in-Some.rest.now c.in-Some-field_then.rest.now c.in-Some-field_then.number p (omega (arith, c.in-Some-field_then.ensures.1)) c.in-Some-field_then.ensures.3
    c.in-Some-field_then.ensures.2 h a in
    let d = id_rest c.in-Some-field_then.rest.now c.in-Some-field_then-2.rest.now c.in-Some-field_then-2.id p (omega (arith, c.in-Some-field_then-2.ensures.1))
    c.in-Some-field_then-2.ensures.3 c.in-Some-field_then-2.ensures.2 h b in
    let g = version_rest c.in-Some-field_then-2.rest.now c.in-Some-field_then-3.rest.now c.in-Some-field_then-3.version p (omega (arith, c.in-Some-field_then-3.ensures.1))
    c.in-Some-field_then-3.ensures.3 c.in-Some-field_then-3.ensures.2 h d in
    c.in_default-last_of.ensures p.rank (omega arith) (omega (arith, h.rank_fits)) g
