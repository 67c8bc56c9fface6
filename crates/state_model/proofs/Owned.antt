-- An account behind a frame: the datagrams addressed to its station alone count.
use Rattle.std.proofs.Common.{◌≡◌, ℕ, ◌==◌, List, [], ◌∷◌, Bool, true, false, Option, Some, None, filter, refl, ap, ◌∙◌}
use Rattle.std.specs.Prelude.{◌&&◌, not, if◌then◌else◌}
use Rattle.segment_model.specs.Slaves.{Datagram}
use Rattle.segment_model.specs.Record.{is_for}
use Rattle.state_model.specs.Accounts.{Account, Duty, account_met, account_back, account_by, access_done}

module _ {M Q R : Type 0} (station frame : ℕ) where
  -- one that is addressed to no or to another station leaves the account
  pub met-else : (a : Account Q R) (hand : Option Duty) (d : Datagram M) → is_for station d.address ≡ false → account_met station frame a hand d ≡ a
  met-else a None d e = refl
  met-else a (Some duty) d e = ap (λ (b : Bool). if b && not (d.counter == 0) then account_by frame a duty (access_done duty.target duty.stage d.access d.found) else a) e

  pub account_back-own : (a : Account Q R) (ds : List (Datagram M)) → account_back station frame a ds ≡ account_back station frame a (filter (λ d. is_for station d.address) ds)
  account_back-own a [] = refl
  account_back-own a (d ∷ ds) = go (is_for station d.address) refl (account_back-own (account_met station frame a a.hand d) ds) (account_back-own a ds)
    where
      rest : List (Datagram M)
      rest = filter (λ d. is_for station d.address) ds

      go : (b : Bool) → is_for station d.address ≡ b → account_back station frame (account_met station frame a a.hand d) ds ≡ account_back station frame (account_met station frame a a.hand d) rest →
          account_back station frame a ds ≡ account_back station frame a rest → account_back station frame (account_met station frame a a.hand d) ds ≡ account_back station frame a (if b then d ∷ rest else rest)
      go true e mine other = mine
      go false e mine other = ap (λ (z : Account Q R). account_back station frame z ds) (met-else a a.hand d e) ∙ other

  -- one of them, or none
  pub account_back-one : (a : Account Q R) (ds : List (Datagram M)) (d : Datagram M) → filter (λ d. is_for station d.address) ds ≡ d ∷ [] → account_back station frame a ds ≡ account_met station frame a a.hand d
  account_back-one a ds d e = account_back-own a ds ∙ ap (account_back station frame a) e

  pub account_back-none : (a : Account Q R) (ds : List (Datagram M)) → filter (λ d. is_for station d.address) ds ≡ [] → account_back station frame a ds ≡ a
  account_back-none a ds e = account_back-own a ds ∙ ap (account_back station frame a) e
