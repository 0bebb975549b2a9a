-- One session more.
use Rattle.std.proofs.Common.{◌≡◌, ℕ, ◌+◌, List, [], ◌∷◌, ◌++◌, length, ap, subst, ◌∙◌, arith}
use Rattle.rank_board.specs.Models.{SeatModel}
use Rattle.client_session.specs.Halls.{IsNewSession}
use Rattle.client_session.specs.Models.{DriverModel, HallModel, SessionModel}
use Rattle.live_serving.specs.Followed.{AreBegun, IsBegun}

begun_more : (calls client : ℕ) (ss : List SessionModel) (s : SessionModel) → AreBegun calls client ss → IsBegun calls (client + length ss) s → AreBegun calls client (ss ++ s ∷ [])
begun_more calls client [] s h b = let e : client + 0 ≡ client = omega arith in (subst (λ k. IsBegun calls k s) e b, tt)
begun_more calls client (x ∷ xs) s h b =
    let e : client + length (x ∷ xs) ≡ client + 1 + length xs = omega arith in
    (h.0, begun_more calls (client + 1) xs s h.1 (subst (λ k. IsBegun calls k s) e b))

-- a session that was made where so many were
pub seated : (hall : HallModel) (first driver : DriverModel) (calls : ℕ) (ss : List SessionModel) (s : SessionModel) → first.position ≡ 0 →
    driver ≡ record first { made = length ss } → IsNewSession hall driver calls s → AreBegun calls 1 ss → AreBegun calls 1 (ss ++ s ∷ [])
seated hall first driver calls ss s start is new h =
    let made = ap (λ (d : DriverModel). d.made) is in
    let position = ap (λ (d : DriverModel). d.position) is in
    begun_more calls 1 ss s h (record {
      new = record { own = new.own; notes = ap (λ (r : SeatModel). r.pulls) new.rank };
      number = omega (arith, new.number, made);
      left = new.left;
      position = new.position ∙ position ∙ start;
    })
