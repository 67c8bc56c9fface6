-- EPOCH BY EPOCH: a life that its master leads, seen with what is meant by its mails.
use Rattle.std.proofs.Common.{◌≡◌, ℕ, Bool, Option, List, [], ◌∷◌, ◌++◌, map, length, refl, ap, ap₂, sym, ◌∙◌, subst}
use Rattle.std.proofs.lemmas.List.{map-append}
use Rattle.served_places.specs.of_exchange_model.Exchange.{Exchange}
use Rattle.served_places.specs.of_life_model.Eras.{WasOpen, planned}
use Rattle.served_places.specs.of_life_model.Lives.{Spot, Era, Life, new_era}
use Rattle.run_work.specs.of_few_replies.Led.{IsLed}
use Rattle.served_places.specs.of_segment_model.Record.{Frame}
use Rattle.served_places.specs.of_segment_model.Slaves.{Registers, Processor, Slave}
use Rattle.served_places.specs.of_serving_model.Tagged.{Tagged, Asked, Rowed, real, ideal}
use Rattle.served_places.specs.of_state_model.States.{Table}
use Rattle.served_places.specs.of_state_model.Tasks.{IsTaskPlan}
use Rattle.run_work.specs.of_life_counts.Epochs.{Speaker, AllFair, IsSeen, between, seeing, seeing_states, era_named}
use Rattle.run_work.specs.of_life_counts.Worked.{AllWorked, IsNewest}
use Rattle.served_rings.specs.SeenLed.{ErasFair, IsFairLife, IsSeenLife, WasLed, AllLed, IsNewestLed, IsLedLife}

module _ {V M Q R C T A : Type 0} (w : Speaker V M Q R C T) (seer : Processor (Rowed V M Q)) (table : ℕ → Table) (spot : Spot) (u : Exchange V A M T (Option R)) (processor : Processor V) (clear : V → V) where
  abbrev EraThere : Type 0
  EraThere = Era M T (Option R)

  abbrev EraHere : Type 0
  EraHere = Era (Tagged M Q) (Asked M Q) (Option R)

  -- the laws of one epoch, and of a server that is cleared in it
  pub record Laws : Type 0 where
    pub epochs : (opened : ℕ) (v : V) (r : Registers) → IsTaskPlan (seeing w) (seeing_states w) seer table (planned spot (between v) r ∷ []) → r.station ≡ spot.station → (fs : List (Frame M)) (counts : Bool) (e : EraThere) (n : Slave V M) →
        IsLed u w.naming.acknowledged processor w.naming.more w.naming.passed spot opened v r fs counts e n → AllFair w e.account.started → IsSeen w seer table spot opened v r fs counts e n
    pub clears : (opened : ℕ) (v : V) (r : Registers) (fs : List (Frame M)) (counts : Bool) (e : EraThere) (n : Slave V M) → (is : IsSeen w seer table spot opened v r fs counts e n) →
        clear (real w.exchange is.slave.node.server.server) ≡ clear (ideal w.exchange is.slave.node.server.server)

  fair_front : (es fs : List EraThere) → ErasFair w (es ++ fs) → ErasFair w es
  fair_front [] fs all = tt
  fair_front (e ∷ es) fs all = (all.0, fair_front es fs all.1)

  fair_last : (es : List EraThere) (e : EraThere) → ErasFair w (es ++ e ∷ []) → AllFair w e.account.started
  fair_last [] e all = all.0
  fair_last (f ∷ es) e all = fair_last es e all.1

  module _ (laws : Laws) where
    -- ONE EPOCH: a session that sees it, which left what is, cleared, what its slave left
    record Seen (from : V) (e : EraThere) (to : V) : Type 0 where
      era : EraHere
      frames : List (Frame (Tagged M Q))
      left : V
      was : WasOpen (seeing w) (seeing_states w) seer table spot era frames from left
      named : era_named w era ≡ e
      same : clear left ≡ clear to

    one : (from : V) (e : EraThere) (to : V) → WasLed w seer table spot u processor from e to → AllFair w e.account.started → Seen from e to
    one from e to k fair =
        let is = laws.epochs k.opened k.server k.registers k.plan k.answers k.frames k.counts e k.slave k.led fair in
        let stood : real w.exchange is.slave.node.server.server ≡ to = ap (λ (s : Slave V M). s.node.server.server) is.stands ∙ k.leaves in
        record {
          era = is.era;
          frames = is.frames;
          left = ideal w.exchange is.slave.node.server.server;
          was = record { opened = k.opened; until = length is.frames; server = between k.server; registers = k.registers; slave = is.slave; begins = k.begins; era = is.is; leaves = refl };
          named = is.named;
          same = sym (laws.clears k.opened k.server k.registers k.frames k.counts e k.slave is) ∙ ap clear stood;
        }

    -- ALL THAT ARE OVER
    record Past (first : V) (es : List EraThere) (b : V) : Type 0 where
      eras : List EraHere
      worked : AllWorked (seeing w) (seeing_states w) seer table spot clear first eras b
      named : map (era_named w) eras ≡ es

    one_more : (ds : List EraHere) (d : EraHere) (es : List EraThere) (e : EraThere) → map (era_named w) ds ≡ es → era_named w d ≡ e → map (era_named w) (ds ++ d ∷ []) ≡ es ++ e ∷ []
    one_more ds d es e all last = map-append (era_named w) ds (d ∷ []) ∙ ap₂ (λ (l : List EraThere) (k : EraThere). l ++ k ∷ []) all last

    past : (first : V) (es : List EraThere) (b : V) → AllLed w seer table spot u processor clear first es b → ErasFair w es → Past first es b
    past first _ _ (AllLed.none _) fair = record { eras = []; worked = AllWorked.none first; named = refl }
    past first _ _ (AllLed.closed _ es b cleared state before) fair =
        let p = past first es b before (fair_front es (new_era cleared state ∷ []) fair) in
        record { eras = p.eras ++ new_era cleared state ∷ []; worked = AllWorked.closed first p.eras b (new_era cleared state) p.worked refl; named = one_more p.eras (new_era cleared state) es (new_era cleared state) p.named refl }
    past first _ _ (AllLed.opened _ es b e left before k) fair =
        let p = past first es b before (fair_front es (e ∷ []) fair) in
        let s = one b e left k (fair_last es e fair) in
        record {
          eras = p.eras ++ s.era ∷ [];
          worked = subst (λ z. AllWorked (seeing w) (seeing_states w) seer table spot clear first (p.eras ++ s.era ∷ []) z) s.same (AllWorked.opened first p.eras b s.era s.frames s.left p.worked s.was);
          named = one_more p.eras s.era es e p.named s.named;
        }

    -- THE NEWEST
    record Newest (from : V) (e : EraThere) : Type 0 where
      era : EraHere
      is : IsNewest (seeing w) (seeing_states w) seer table spot from era
      named : era_named w era ≡ e

    newest : (from : V) (e : EraThere) → IsNewestLed w seer table spot u processor from e → AllFair w e.account.started → Newest from e
    newest from e (IsNewestLed.closed cleared state new) fair = record { era = new_era cleared state; is = IsNewest.closed refl; named = sym new }
    newest from e (IsNewestLed.opened to k) fair = let s = one from e to k fair in record { era = s.era; is = IsNewest.opened s.frames s.left s.was; named = s.named }

    -- THE LIFE
    pub lives : (first : V) (l : Life M T (Option R)) → IsLedLife w seer table spot u processor clear first l → IsFairLife w l → IsSeenLife w seer table spot clear first l
    lives first l k fair =
        let p = past first l.past k.from k.past fair.past in
        let n = newest k.from l.era k.newest fair.now in
        record {
          life = record { past = p.eras; era = n.era; stand = l.stand; gave = l.gave };
          worked = record { from = k.from; past = p.worked; newest = n.is };
          seen = (λ i. record { past = p.named i; era = n.named i; stand = l.stand; gave = l.gave });
        }
