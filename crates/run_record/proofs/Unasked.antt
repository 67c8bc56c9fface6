-- A SLAVE OF A SERVING TO WHICH NO MAIL IS ASKED goes on as in a run.
use Rattle.std.proofs.Common.{◌≡◌, ℕ, zero, suc, Bool, true, false, Option, Some, None, List, [], ◌∷◌, ◌++◌, map, refl, sym, ap, ◌∙◌, subst}
use Rattle.std.specs.Prelude.{◌&&◌, if◌then◌else◌, ⊤}
use Rattle.served_places.specs.of_datagrams.Datagram as Raw
use Rattle.packets_heard.proofs.of_master_node.Handeds.{comes_own}
use Rattle.packets_heard.specs.of_master_node.Serving.{run_lead, run_turn}
use Rattle.plan_ring.specs.of_frame_view.Seen.{seen}
use Rattle.plan_ring.specs.of_frame_view.View.{Lens}
use Rattle.plan_ring.specs.of_frame_view.Shares.{Lived, came_at, given_where}
use Rattle.served_places.specs.of_exchange_model.Exchange.{Speech}
use Rattle.served_places.specs.of_life_model.Lives.{Life, Spot, Stand, life_back, life_lost}
use Rattle.served_places.specs.of_life_runs.Led.{AllTurn, Comes, Exchanged, IsTurn, Leads, led_behind, life_behind, speech_at}
use Rattle.served_places.specs.of_link_mails.Body.{Body}
use Rattle.served_places.specs.of_master_duty.Reply.{Reply}
use Rattle.served_places.specs.of_state_model.Stated.{Service}
use Rattle.served_places.specs.of_master_hand.Spoken.{Asked, acknowledged, is_followed, is_passed}
use Rattle.served_places.specs.of_master_side.Passing.{news_back, news_lost, passing_behind}
use Rattle.served_places.specs.of_segment_model.Ends.{Passing}
use Rattle.served_places.specs.of_segment_model.Record.{News}
use Rattle.served_places.specs.of_segment_model.Slaves.{Datagram, Found}
use Rattle.run_record.proofs.Heads.{not_none}
use Rattle.packets_heard.specs.of_segment_plan.declared.service.Service as Plan
use Rattle.served_places.specs.of_segment_ring.declared.wire.Fate.{Fate}
use Rattle.served_places.specs.of_segment_ring.declared.wire.Fate.TheVariants as Fates
use Rattle.served_places.proofs.Behind.{unpassed_behind}
use Rattle.served_places.proofs.Next.{next_passing}
use Rattle.served_places.specs.of_life_runs.Served.{AllServedTurn, IsQuiet, IsRunOf, IsServedTurn, Keyed, MayAsk, ServedComes, ServedTurn, Serves, asked_at, gives_it, served_behind, served_life}
use Rattle.served_places.specs.of_life_runs.Told.{Passed}

-- no mail was asked of these slaves
abbrev pub NoneAsked : List Serves → Type 0
NoneAsked [] = ⊤
NoneAsked (w ∷ ws) = (w.asked ≡ []) × NoneAsked ws

pub not_more : {T : Type 0} (xs : List T) (x : T) → xs ++ x ∷ [] ≡ [] → ⊥
not_more [] x e = not_none x [] (sym e)
not_more (y ∷ ys) x e = not_none y (ys ++ x ∷ []) (sym e)

-- so none was asked last
pub never_asked : (lens : ℕ → Lens) (place : ℕ) (k : Keyed) (ws : List Serves) → MayAsk lens place k ws → NoneAsked (asked_at place k ws) → ⊥
never_asked lens zero k [] may none = absurd may
never_asked lens (suc place) k [] may none = absurd may
never_asked lens zero k (w ∷ ws) may none = not_more w.asked k none.0
never_asked lens (suc place) k (w ∷ ws) may none = never_asked lens place k ws may none.1

-- its slaves as a run has them
pub leads_of : (ws : List Serves) (as' : List Leads) → IsRunOf ws as' → map run_lead ws ≡ as'
leads_of [] [] q = refl
leads_of [] (a ∷ as') q = absurd q
leads_of (w ∷ ws) [] q = absurd q
leads_of (w ∷ ws) (a ∷ as') q = λ i. q.0.lead i ∷ leads_of ws as' q.1 i

-- none of them has a mail in hand that is passed on
pub none_passed : (w : Serves) (a : Leads) → IsQuiet w a → w.lead.lived.life.era.passing ≡ None
none_passed w a q = ap (λ (z : Leads). z.lived.life.era.passing) q.lead ∙ q.unpassed

-- ---- BEFORE A FRAME

-- what comes into hand does so in a run
comes_run : (room : ℕ) (script : List Plan.Service) (waits : List Keyed) (hand : Option Passed) (n : ℕ) (b : Option (Service Asked)) (k : ℕ) (rest : List Keyed) (now : Option Passed) → ServedComes room script waits hand n b k rest now → waits ≡ [] → Comes room script n b k × (rest ≡ [])
comes_run room script waits hand n _ _ _ _ ServedComes.none e = (Comes.none, e)
comes_run room script waits hand n _ _ _ _ (ServedComes.own s m comes) e = (comes, e)
comes_run room script waits hand n _ _ _ _ (ServedComes.mail key more is) e = absurd (let bad : key ∷ more ≡ [] = sym is ∙ e in cc)

-- and is no mail that is passed on
stays_none : (room : ℕ) (script : List Plan.Service) (n k : ℕ) (b : Option (Service Asked)) → Comes room script n b k → passing_behind is_passed None b ≡ None
stays_none room script n k None c = refl
stays_none room script n k (Some (Service.State target)) c = refl
stays_none room script n k (Some (Service.Mails q)) c = ap (λ (z : Bool). if z then Some Passing.Waiting else None) (comes_own room script n k (Some (Service.Mails q)) c q refl)

-- no mail waits to be passed on, and none is in hand
pub record IsBare (v : ServedTurn) : Type 0 where
  pub waits : v.waits ≡ []
  pub unpassed : v.turn.lived.life.era.passing ≡ None

-- of all slaves
abbrev pub AllBare : List ServedTurn → Type 0
AllBare [] = ⊤
AllBare (v ∷ vs) = IsBare v × AllBare vs

module _ (lens : ℕ → Lens) (made : ℕ) (ds : List Raw.Datagram) where
  one_run : (w : Serves) (v : ServedTurn) (a : Leads) → IsServedTurn lens made ds w v → IsQuiet w a → IsTurn lens made ds a v.turn × IsBare v
  one_run w v a t q =
      let room : ℕ = (lens w.lead.lived.spot.station).out in
      let c = comes_run room w.lead.script w.waits w.hand w.lead.number v.turn.begun v.turn.number v.waits v.hand t.comes q.waits in (
        subst (λ (z : Leads). IsTurn lens made ds z v.turn) q.lead (record { script = t.script; comes = c.0; next = t.next; begun = t.begun; took = t.took; asked = t.asked }),
        record {
          waits = c.1;
          unpassed = next_passing lens made ds w v t ∙ ap (λ z. passing_behind is_passed z v.turn.begun) (none_passed w a q) ∙ stays_none room w.lead.script w.lead.number v.turn.number v.turn.begun c.0;
        },
      )

  pub all_run : (ws : List Serves) (vs : List ServedTurn) (as' : List Leads) → AllServedTurn lens made ds ws vs → IsRunOf ws as' → AllTurn lens made ds as' (map run_turn vs) × AllBare vs
  all_run [] [] [] t q = (tt, tt)
  all_run [] [] (a ∷ as') t q = absurd q
  all_run [] (v ∷ vs) as' t q = absurd t
  all_run (w ∷ ws) [] as' t q = absurd t
  all_run (w ∷ ws) (v ∷ vs) [] t q = absurd q
  all_run (w ∷ ws) (v ∷ vs) (a ∷ as') t q =
      let here = one_run w v a t.0 q.0 in
      let rest = all_run ws vs as' t.1 q.1 in
      ((here.0, rest.0), (here.1, rest.1))

-- ---- BEHIND IT

-- a life without a mail in hand that is passed on
abbrev unpassed : Life Body Asked Reply → Life Body Asked Reply
unpassed l = record l { era = record l.era { passing = None } }

unpassed_is : (l : Life Body Asked Reply) → l.era.passing ≡ None → l ≡ unpassed l
unpassed_is l e = λ i. record l { era = record l.era { passing = e i } }

-- the news of such a mail change nothing of it
module _ (x : Speech Body Asked Reply) (spot : Spot) (ns : List (News Body)) where
  plain_back : (made : ℕ) (back : List (Datagram Body)) (came : Option (Bool × Option Found)) (l : Life Body Asked Reply) (stand : Stand) →
      life_back x acknowledged is_followed is_passed made spot ns back came (unpassed l) stand ≡ life_back x acknowledged is_followed is_passed made spot [] back came (unpassed l) stand
  plain_back made back None l (Stand.Opens o) = refl
  plain_back made back (Some came) l (Stand.Opens o) = refl
  plain_back made back came l Stand.Open = refl
  plain_back made back came l Stand.Gone = refl

  plain_lost : (sent : List (Datagram Body)) (l : Life Body Asked Reply) (stand : Stand) → life_lost x acknowledged is_followed is_passed spot ns sent (unpassed l) stand ≡ life_lost x acknowledged is_followed is_passed spot [] sent (unpassed l) stand
  plain_lost sent l (Stand.Opens o) = refl
  plain_lost sent l Stand.Open = refl
  plain_lost sent l Stand.Gone = refl

module _ (lens : ℕ → Lens) (recover retry : ℕ) (gives : Bool) (made : ℕ) (f : Exchanged) where
  abbrev with_life : ServedTurn → Life Body Asked Reply → ServedTurn
  with_life v l = record v { turn = record v.turn { lived = record v.turn.lived { life = l } } }

  abbrev SameLife : Fate → ServedTurn → Type 0
  SameLife fate v = served_life lens recover retry gives made f fate v ≡ life_behind lens recover retry gives made f fate v.turn.lived v.turn.share

  by_fate : (fate : Fate) (v : ServedTurn) → SameLife fate (with_life v (unpassed v.turn.lived.life))
  by_fate Fates.Pass v =
      let l = v.turn.lived.life in
      ap (λ (m : Life Body Asked Reply). record { spot = v.turn.lived.spot; life = m })
      (plain_back (speech_at lens v.turn.lived.spot) v.turn.lived.spot (news_back v.turn.lived.spot.station v.kept v.counts (seen lens f.back)) made (seen lens f.back) (came_at v.turn.share.under v.turn.share.at (seen lens f.back)) l l.stand)
  by_fate (Fates.Lost after) v =
      let l = v.turn.lived.life in
      ap (λ (m : Life Body Asked Reply). record { spot = v.turn.lived.spot; life = given_where (gives && v.turn.share.under) recover v.turn.lived.spot made m })
      (plain_lost (speech_at lens v.turn.lived.spot) v.turn.lived.spot (news_lost v.turn.lived.spot.station v.kept (seen lens f.sent)) (seen lens f.sent) l l.stand)

  life_same : (fate : Fate) (v : ServedTurn) → IsBare v → SameLife fate v
  life_same fate v b = subst (λ (l : Life Body Asked Reply). SameLife fate (with_life v l)) (sym (unpassed_is v.turn.lived.life b.unpassed)) (by_fate fate v)

  none_wait : (z : Bool) (v : ServedTurn) → v.waits ≡ [] → (if z then [] else v.waits) ≡ []
  none_wait true v e = refl
  none_wait false v e = e

  one_behind : (v : ServedTurn) → IsBare v → IsQuiet (served_behind lens recover retry gives made f v) (led_behind lens recover retry gives made f v.turn)
  one_behind v b = record {
    lead = ap (λ (l : Lived Asked Reply). record { script = v.turn.script; number = v.turn.number; lived = l }) (life_same f.fate v b);
    waits = none_wait (gives_it lens recover retry gives f.fate v) v b.waits;
    unpassed = ap (λ (l : Lived Asked Reply). l.life.era.passing) (sym (life_same f.fate v b)) ∙ unpassed_behind lens recover retry gives made f v b.unpassed;
  }

  pub all_behind : (vs : List ServedTurn) → AllBare vs → IsRunOf (map (served_behind lens recover retry gives made f) vs) (map (led_behind lens recover retry gives made f) (map run_turn vs))
  all_behind [] b = tt
  all_behind (v ∷ vs) b = (one_behind v b.0, all_behind vs b.1)

  -- none is asked over a frame
  pub none_before : (ds : List Raw.Datagram) (ws : List Serves) (vs : List ServedTurn) → AllServedTurn lens made ds ws vs → NoneAsked (map (served_behind lens recover retry gives made f) vs) → NoneAsked ws
  none_before ds [] [] t n = tt
  none_before ds [] (v ∷ vs) t n = absurd t
  none_before ds (w ∷ ws) [] t n = absurd t
  none_before ds (w ∷ ws) (v ∷ vs) t n = (sym t.0.same ∙ n.0, none_before ds ws vs t.1 n.1)

  pub none_behind : (ds : List Raw.Datagram) (ws : List Serves) (vs : List ServedTurn) → AllServedTurn lens made ds ws vs → NoneAsked ws → NoneAsked (map (served_behind lens recover retry gives made f) vs)
  none_behind ds [] [] t n = tt
  none_behind ds [] (v ∷ vs) t n = absurd t
  none_behind ds (w ∷ ws) [] t n = absurd t
  none_behind ds (w ∷ ws) (v ∷ vs) t n = (t.0.same ∙ n.0, none_behind ds ws vs t.1 n.1)
