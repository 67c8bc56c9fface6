-- Nothing is left of an epoch whose slave is settled and of which the master wants nothing.
use Rattle.std.proofs.Common.{◌≡◌, ℕ, ◌-◌, ◌&&◌, ◌||◌, ◌==◌, Bool, false, not, Option, Some, List, [], ◌∷◌, map, refl, ap, ap₂, sym, ◌∙◌, append-nil, if◌then◌else◌}
use Rattle.state_model.specs.of_exchange_model.Exchange.{Exchange}
use Rattle.state_model.specs.of_segment_model.Record.{Frame}
use Rattle.state_model.specs.of_segment_model.Ends.{Outcome}
use Rattle.state_model.specs.of_segment_model.Books.{answer_from}
use Rattle.state_model.specs.States.{Table}
use Rattle.state_model.specs.Stated.{Stated, Service}
use Rattle.state_model.specs.Accounts.{Started}
use Rattle.state_model.specs.Promise.{TasksRest, AllEnded, services_in, mails_in, outcome_of}
use Rattle.life_model.specs.Lives.{returns_to_init}
use Rattle.life_model.specs.Eras.{OpenEra, frames_of}
use Rattle.life_model.specs.Book.{Line, line_of, epoch_book, done_rows, NoInits, NoneInDoubt, EpochRests, is_in_doubt, opened_behind, acted, state_next, done, is_left, trimmed}
use Rattle.life_model.proofs.Books.{grown, exec_is, emits_is, done_front}

module _ {V A M Q R : Type 0} (x : Exchange V A M Q R) (s : Stated V A Q) (table : Table) (cleared : A → A) (more : M → Bool) (station : ℕ) (fs : List (Frame M)) where
  abbrev one : A → Q → ℕ
  one a q = 1

  -- with an outcome a row isn't in doubt
  sure : (r : Started Q) (o : Outcome R × ℕ) → outcome_of x.speech more station fs r ≡ Some o → is_in_doubt (line_of x.speech more station fs r).answer ≡ false
  sure r o e = ap (λ f. is_in_doubt (answer_from f)) e

  pub none_doubted : (rs : List (Started Q)) → AllEnded x.speech more station fs rs → NoneInDoubt x s table cleared one (map (λ r. line_of x.speech more station fs r) rs)
  none_doubted [] all = tt
  none_doubted (r ∷ rs) all = (sure r all.0.0 all.0.1, none_doubted rs all.1)

  -- so none is left out
  pub all_kept : (follows : Bool) (opened : Option ℕ) (al : ℕ) (a : A) (ls : List (Line Q R)) → NoneInDoubt x s table cleared one ls → trimmed x s table cleared one follows opened al a ls ≡ ls
  all_kept follows opened al a [] none = refl
  all_kept follows opened al a (l ∷ []) none = go l.service
    where
      go : (service : Service Q) → (if is_left x s table cleared one follows opened al a l service then [] else l ∷ []) ≡ l ∷ []
      go (Service.Mails q) = refl
      go (Service.State target) = ap (λ d. if d && (follows || (returns_to_init target && not (opened_behind opened l.frame)) || not (al == state_next x s table cleared one a target)) then [] else l ∷ []) none.0
  all_kept follows opened al a (l ∷ (k ∷ ls)) none = ap (λ m. l ∷ m) (all_kept follows opened al (acted x s table cleared one a l.service) (k ∷ ls) none.1)

-- NOTHING IS LEFT
pub epoch_rests : {V A M Q R : Type 0} (w : OpenEra V A M Q R) (cleared : A → A) (more : M → Bool) → NoInits (services_in w.era.account.started) →
    TasksRest w.exchange w.states (w.table w.spot.station) more (frames_of w) w.spot.station w.server w.era.side w.era.account w.slave → (follows : Bool) (al : ℕ) →
    EpochRests w cleared (epoch_book w more w.era.account.started) (done_rows w cleared more w.era.account.started follows al)
epoch_rests {A = A} {Q = Q} {R = R} w cleared more none p follows al =
    let x = w.exchange in
    let s = w.states in
    let table = w.table w.spot.station in
    let station = w.spot.station in
    let fs = frames_of w in
    let a = x.app w.server in
    let rs = w.era.account.started in
    let e = epoch_book w more rs in
    let sure_all = none_doubted x s table cleared more station fs rs p.ended in
    let handled : e.handled ≡ mails_in (services_in rs) = ap (λ n. n - x.handled w.server) p.handled ∙ grown (x.handled w.server) (mails_in (services_in rs)) in
    let whole : done x s table cleared (λ b q. 1) e.handled a e.lines ≡ e.lines =
    ap₂ (λ (n : ℕ) (l : List (Line Q R)). done x s table cleared (λ b q. 1) n a l) handled (sym (append-nil e.lines))
    ∙ done_front x s table cleared more station fs a rs [] ∙ append-nil e.lines in
    record {
      all = ap (trimmed x s table cleared (λ b q. 1) follows e.opened al a) whole ∙ all_kept x s table cleared more station fs follows e.opened al a e.lines sure_all;
      app = sym (p.app ∙ exec_is x s table cleared more station fs a 0 rs none);
      emissions = p.emissions ∙ emits_is x s table cleared more station fs a 0 rs none;
      ended = sure_all;
    }
