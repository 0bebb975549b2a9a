-- What a new session is.
use Rattle.std.proofs.Common.{◌≡◌, ◌≢◌, ℕ, ◌+◌, ◌<◌, ◌≤◌, ◌^◌, List, [], length, map, refl, sym, ap, ◌∙◌, subst, arith}
use Rattle.std.specs.Prelude.{All, unwrap_or}
use Rattle.std.proofs.lemmas.List.Elements.{All-nil, All-weaker}
use Rattle.turnstile.specs.Models.{first_root, next_seat, RootModel, SeatModel as TurnSeatModel}
use Rattle.atomic_table.specs.Seated.{TableId}
use Rattle.journal.specs.declared.command.Entry.{Entry}
use Rattle.rank_board.specs.declared.pulls.Pull.{Pull}
use Rattle.rank_board.specs.Models.{new_seat, SeatModel}
use Rattle.client_session.specs.declared.desk.Setting.{Setting}
use Rattle.client_session.specs.declared.receipt.Receipt.{Receipt}
use Rattle.client_session.specs.Own.{IsPass, own_entries, receipt_of}
use Rattle.client_session.specs.Grants.{GrantedModel, TellsGrants}
use Rattle.client_session.specs.Drivers.{IsDriver, who_of}
use Rattle.client_session.specs.Turns.{IsSession}
use Rattle.client_session.proofs.Agreement.{nothing_seen}
use Rattle.client_session.proofs.OwnSteps.{own_above}
use Rattle.client_session.proofs.Passes.{pass_first}

module _ (root : RootModel Entry Setting) (seat : TurnSeatModel Entry Setting) (turned position number : ℕ) (granted : GrantedModel) (h : IsDriver root turned position granted)
    (seat_is : seat ≡ next_seat root) (number_is : number ≡ root.made + 1) where
  pub nothing_own : own_entries number seat.seen ≡ []
  nothing_own = ap (λ (s : TurnSeatModel Entry Setting). own_entries number s.seen) seat_is ∙ own_above number root.made root.seen (omega (arith, number_is)) h.numbers

  pub new_session : (rank new_rank : SeatModel) (calls room : ℕ) (receipts : List Receipt) → new_rank ≡ new_seat rank.table new_rank.id rank.seen → receipts ≡ [] → calls ≤
      room → calls <
      2 ^ 32 →
      IsSession seat new_rank number calls position receipts room
  new_session rank new_rank calls room receipts rank_is empty fits few =
      let zero_long : length receipts ≡ 0 = ap (λ (l : List Receipt). length l) empty in
      record {
        free = ap (λ (s : TurnSeatModel Entry Setting). s.in_turn) seat_is;
        number_is = ap (λ (s : TurnSeatModel Entry Setting). s.number) seat_is ∙ sym number_is;
        position_is = ap (λ (s : TurnSeatModel Entry Setting). length s.seen) seat_is ∙ h.position_is;
        receipts_are = empty ∙ ap (map receipt_of) (sym nothing_own);
        has_room = omega (arith, zero_long, fits);
        few = omega (arith, zero_long, few);
        pass = subst (λ own. IsPass own new_rank.pulls new_rank.seen) (sym nothing_own)
            (subst (λ (x : SeatModel). IsPass [] x.pulls x.seen) (sym rank_is) (pass_first rank.seen));
        coflow = λ c e. subst (λ (x : SeatModel). All (λ (p : Pull). p.coflow < c.board.coflows) x.pulls) (sym rank_is) (All-nil (λ (p : Pull). p.coflow < c.board.coflows));
      }

-- the driver of a new hall
pub first_driver : (root : RootModel Entry Setting) (table : TableId) (setting : Setting) (granted : GrantedModel) → root ≡ first_root table setting →
    TellsGrants setting.opening [] granted → IsDriver root 0 0 granted
first_driver root table setting granted is told = subst (λ (r : RootModel Entry Setting). IsDriver r 0 0 granted) (sym is) (record {
  free = refl;
  none_back = refl;
  numbers = All-nil (λ e. who_of e ≤ 0);
  position_is = refl;
  turned_is = omega arith;
  others = All-nil (λ e. who_of e ≢ 0);
  seen = λ c e. nothing_seen c.opening;
  grants = λ c e. subst (λ (x : Setting). TellsGrants x.opening [] granted) (ap (λ o. unwrap_or o setting) e) told;
})

-- the driver once it made one more session
pub one_more : (root new : RootModel Entry Setting) (turned position : ℕ) (granted : GrantedModel) → new ≡ record root { made = root.made + 1 } →
    IsDriver root turned position granted → IsDriver new turned position granted
one_more root new turned position granted is h = subst (λ (r : RootModel Entry Setting). IsDriver r turned position granted) (sym is) (record {
  free = h.free;
  none_back = h.none_back;
  numbers = All-weaker (λ e. who_of e ≤ root.made) (λ e. who_of e ≤ root.made + 1) (λ e le. omega arith) root.seen h.numbers;
  position_is = h.position_is;
  turned_is = h.turned_is;
  others = h.others;
  seen = h.seen;
  grants = h.grants;
})
