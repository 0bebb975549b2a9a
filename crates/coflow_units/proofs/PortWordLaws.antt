-- Words of ports tell what they are made of.
use Rattle.std.proofs.Common.{◌≡◌, ◌≢◌, ℕ, arith}
use Rattle.coflow_units.specs.PortWord.{FitsWord, word_of}
use Rattle.coflow_units.specs.PortWord.PortStage.{granted, drawn, reported}

pub same_granted : (slot flow slot' flow' : ℕ) → FitsWord slot flow → FitsWord slot' flow' → word_of granted slot flow ≡ word_of granted slot' flow' →
    (slot ≡ slot') × (flow ≡ flow')
same_granted slot flow slot' flow' fits fits' e = (omega (arith, fits.1, fits'.1, e), omega (arith, fits.1, fits'.1, e))

pub granted_not_drawn : (agent slot flow slot' flow' : ℕ) → FitsWord slot flow → FitsWord slot' flow' → word_of granted slot flow ≢ word_of (drawn agent) slot' flow'
granted_not_drawn agent slot flow slot' flow' fits fits' e = omega (arith, fits.0, fits.1, e)

pub drawn_not_reported : (agent other units slot flow slot' flow' : ℕ) → FitsWord slot flow → FitsWord slot' flow' →
    word_of (drawn agent) slot flow ≢ word_of (reported other units) slot' flow'
drawn_not_reported agent other units slot flow slot' flow' fits fits' e = omega (arith, fits.0, fits.1, e)

pub granted_not_reported : (agent units slot flow slot' flow' : ℕ) → FitsWord slot flow → FitsWord slot' flow' →
    word_of granted slot flow ≢ word_of (reported agent units) slot' flow'
granted_not_reported agent units slot flow slot' flow' fits fits' e = omega (arith, fits.0, fits.1, e)

pub same_drawn : (agent other slot flow slot' flow' : ℕ) → FitsWord slot flow → FitsWord slot' flow' → word_of (drawn agent) slot flow ≡ word_of (drawn other) slot' flow' →
    (slot ≡ slot') × (flow ≡ flow')
same_drawn agent other slot flow slot' flow' fits fits' e = (omega (arith, fits.1, fits'.1, e), omega (arith, fits.1, fits'.1, e))

pub same_reported : (agent units other more slot flow slot' flow' : ℕ) → FitsWord slot flow → FitsWord slot' flow' →
    word_of (reported agent units) slot flow ≡ word_of (reported other more) slot' flow' → (slot ≡ slot') × (flow ≡ flow')
same_reported agent units other more slot flow slot' flow' fits fits' e = (omega (arith, fits.1, fits'.1, e), omega (arith, fits.1, fits'.1, e))

pub granted_not_zero : (slot flow : ℕ) → word_of granted slot flow ≢ 0
granted_not_zero slot flow e = omega (arith, e)

pub drawn_not_zero : (agent slot flow : ℕ) → word_of (drawn agent) slot flow ≢ 0
drawn_not_zero agent slot flow e = omega (arith, e)

pub reported_not_zero : (agent units slot flow : ℕ) → word_of (reported agent units) slot flow ≢ 0
reported_not_zero agent units slot flow e = omega (arith, e)
