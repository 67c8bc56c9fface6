-- What an account counts anew is what came into hand, and a slave to which no mail is passed on stays one.
use Rattle.std.proofs.Common.{◌≡◌, inl, inr, ℕ, Bool, true, false, List, [], ◌∷◌, ◌++◌, Option, Some, None, refl, sym, ap, ◌∙◌, append-nil}
use Rattle.std.specs.Prelude.{◌⊎◌, ◌&&◌, if◌then◌else◌}
use Rattle.std.proofs.lemmas.List.{append_cancel_left}
use Rattle.master_side.specs.of_exchange_model.Exchange.{Speech}
use Rattle.master_side.specs.of_link_mails.Body.{Body}
use Rattle.master_side.specs.of_segment_model.Ends.{Passing}
use Rattle.master_side.specs.of_segment_model.Seats.{Side}
use Rattle.master_side.specs.of_state_model.Stated.{Service}
use Rattle.master_side.specs.of_state_model.Accounts.{Account, Duty, Started, Pick, is_free, is_acknowledged, account_begins, account_next, starts, state_begins}
use Rattle.master_side.specs.of_life_model.Lives
use Rattle.master_side.specs.of_life_model.Lives.{Life, granted, life_next}
use Rattle.master_side.specs.of_master_duty.Reply.{Reply}
use Rattle.master_side.specs.Shown.{started_by}
use Rattle.master_tour.specs.Stands.{Counts}

-- nothing is no service
none_one : {Q : Type 0} (made : ℕ) (s : Service Q) → [] ≡ started_by made (Some s) → ⊥
none_one made s e = cc

one_one : {Q : Type 0} (made : ℕ) (s t : Service Q) → started_by made (Some s) ≡ started_by made (Some t) → s ≡ t
one_one {Q} made s t e = ap first e
  where
    first : List (Started Q) → Service Q
    first [] = s
    first (x ∷ xs) = x.service

module _ {Q : Type 0} (x : Speech Body Q Reply) (acknowledged : Q → Bool) (more : Body → Bool) (passed : Q → Bool) (made : ℕ) where
  -- an account counts a wish, or nothing
  counts : (d : Side Body Q Reply) (a : Account Q Reply) (hand : Option Duty) (w : Option (Service Q)) →
      ((account_begins x acknowledged made d a hand w).started ≡ a.started ++ started_by made w) ⊎ ((account_begins x acknowledged made d a hand w).started ≡ a.started ++ [])
  counts d a hand None = inr (sym (append-nil a.started))
  counts d a (Some duty) (Some w) = inr (sym (append-nil a.started))
  counts d a None (Some (Service.Mails q)) = go (x.valid q && is_free x d d.now)
    where
      go : (b : Bool) → ((if b then record a { started = starts a (Service.Mails q) made } else a).started ≡ a.started ++ started_by made (Some (Service.Mails q))) ⊎ ((if b then record a { started = starts a (Service.Mails q) made } else a).started ≡ a.started ++ [])
      go true = inl refl
      go false = inr (sym (append-nil a.started))
  counts d a None (Some (Service.State target)) = go (is_free x d d.now && is_acknowledged x acknowledged d d.now)
    where
      go : (b : Bool) → ((if b then state_begins a target made else a).started ≡ a.started ++ started_by made (Some (Service.State target))) ⊎ ((if b then state_begins a target made else a).started ≡ a.started ++ [])
      go true = inl refl
      go false = inr (sym (append-nil a.started))

  -- so what it counts was wished
  by_account : (d : Side Body Q Reply) (a : Account Q Reply) (w : Option (Service Q)) (s : Service Q) → (account_begins x acknowledged made d a a.hand w).started ≡ a.started ++ started_by made (Some s) → w ≡ Some s
  by_account d a w s e = go w (counts d a a.hand w)
    where
      was : (v : List (Started Q)) → (account_begins x acknowledged made d a a.hand w).started ≡ a.started ++ v → v ≡ started_by made (Some s)
      was v k = append_cancel_left a.started v (started_by made (Some s)) (sym k ∙ e)

      go : (o : Option (Service Q)) → ((account_begins x acknowledged made d a a.hand w).started ≡ a.started ++ started_by made o) ⊎ ((account_begins x acknowledged made d a a.hand w).started ≡ a.started ++ []) → o ≡ Some s
      go None (inl k) = absurd (none_one made s (was [] k))
      go (Some t) (inl k) = ap Some (one_one made t s (was (started_by made (Some t)) k))
      go o (inr k) = absurd (none_one made s (was [] k))

  still : (a : Account Q Reply) (s : Service Q) → a.started ≡ a.started ++ started_by made (Some s) → ⊥
  still a s e = none_one made s (append_cancel_left a.started [] (started_by made (Some s)) (append-nil a.started ∙ e))

  by_passing : (d : Side Body Q Reply) (a : Account Q Reply) (p : Option Passing) (pick : Pick Q) (s : Service Q) → (account_next x acknowledged made d a (granted p pick)).started ≡ a.started ++ started_by made (Some s) → pick.begin ≡ Some s
  by_passing d a None pick s e = by_account d a pick.begin s e
  by_passing d a (Some p) pick s e = absurd (still a s e)

  -- WHAT A LIFE COUNTS BEFORE A FRAME CAME INTO HAND BY ITS CHOICE
  pub counted_begin : (l : Life Body Q Reply) (stand : Lives.Stand) (pick : Pick Q) (begin : Option (Service Q)) → Counts made begin l (life_next x acknowledged more passed made l stand pick) → (begin ≡ None → pick.begin ≡ None) → pick.begin ≡ begin
  counted_begin l stand pick None c n = n refl
  counted_begin l (Lives.Stand.Opens o) pick (Some s) c n = absurd (still l.era.account s c)
  counted_begin l Lives.Stand.Gone pick (Some s) c n = absurd (still l.era.account s c)
  counted_begin l Lives.Stand.Open pick (Some s) c n = by_passing l.era.side l.era.account l.era.passing pick s c

  -- where nothing begins nothing is counted
  pub counts_none : (l : Life Body Q Reply) (stand : Lives.Stand) (h : Bool) → (life_next x acknowledged more passed made l stand (record { begin = None; hold = h })).era.account.started ≡ l.era.account.started
  counts_none l (Lives.Stand.Opens o) h = refl
  counts_none l Lives.Stand.Gone h = refl
  counts_none l Lives.Stand.Open h = go l.era.passing
    where
      go : (p : Option Passing) → (account_next x acknowledged made l.era.side l.era.account (granted p (record { begin = None; hold = h }))).started ≡ l.era.account.started
      go None = refl
      go (Some p) = refl
