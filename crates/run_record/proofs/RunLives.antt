-- A SERVING TO WHICH NO MAIL WAS ASKED IS A RUN, of the same frames and the same lives: what came into hand, what was accepted, when packets were written, and what
-- happened at its switch are the same.
use Rattle.std.proofs.Common.{◌≡◌, ℕ, zero, suc, Bool, Option, Some, None, List, [], ◌∷◌, ◌++◌, map, length, refl, sym, ap, subst}
use Rattle.std.specs.Prelude.{if◌then◌else◌}
use Rattle.served_places.specs.of_datagrams.Datagram as Raw
use Rattle.packets_heard.specs.of_eoe_switch.declared.switching.SwitchEvent.{SwitchEvent}
use Rattle.run_notes.specs.of_run_book.Heard.{brought_by, heard_in, heard_none, heard_on}
use Rattle.packets_heard.proofs.of_master_node.Handeds.{comes_own}
use Rattle.packets_heard.specs.of_master_node.Begins.{begun_of}
use Rattle.packets_heard.specs.of_master_node.Events.{oldest_in}
use Rattle.packets_heard.specs.of_master_node.Ports.{ports_behind, ports_of}
use Rattle.packets_heard.specs.of_master_node.Serving.{run_lead, run_turn}
use Rattle.plan_ring.specs.of_frame_view.View.{Lens}
use Rattle.served_places.specs.of_life_runs.First.{first_leads, leads_from, lens_of}
use Rattle.served_places.specs.of_life_runs.Led.{AllTurn, Comes, Exchanged, IsLed, IsLedFrame, Leads, Turn, gives_up_at, led_behind}
use Rattle.served_places.specs.of_state_model.Stated.{Service}
use Rattle.served_places.specs.of_master_hand.Spoken.{Asked}
use Rattle.packets_heard.specs.Heard.{Joined, joined_in, joined_none, joined_on}
use Rattle.packets_heard.specs.Listed.{ListedOn}
use Rattle.packets_heard.specs.Numbers.{each_with, frames_begun}
use Rattle.packets_heard.specs.Over.{BegunOn, packet_begun}
use Rattle.packets_heard.specs.Servings.{AreServedBegun, ServedListed, ServedNumbered, served_begun, served_joined}
use Rattle.run_record.proofs.ServedGaves.{serve_leads}
use Rattle.run_record.proofs.Unasked.{AllBare, NoneAsked, all_behind, all_run, leads_of, never_asked, none_before}
use Rattle.run_record.specs.Led.{BeginsAll, LeadTo, ListsAll, NumbersAll}
use Rattle.run_record.specs.Mails.{mail_begun, served_mails}
use Rattle.run_record.specs.Served.{ServeTo, served_heard}
use Rattle.run_record.specs.Written.{WereDue, WereServedDue, packets_written, served_written, written_on}
use Rattle.packets_heard.specs.of_segment_plan.declared.plan.Scenario.{Scenario}
use Rattle.packets_heard.specs.of_segment_plan.declared.service.Service as Plan
use Rattle.packets_heard.specs.of_segment_plan.declared.slave.SlaveSpec.{SlaveSpec}
use Rattle.served_places.specs.of_life_runs.Served.{IsRunOf, IsServedFrame, IsServedLed, ServedTurn, Serves, all_serve, served_behind}

-- ---- WHAT CAME INTO HAND is no mail that is passed on
one_mailed : (room : ℕ) (script : List Plan.Service) (n m number frame : ℕ) (b : Option (Service Asked)) → Comes room script n b m → mail_begun number frame b ≡ []
one_mailed room script n m number frame None c = refl
one_mailed room script n m number frame (Some (Service.State target)) c = refl
one_mailed room script n m number frame (Some (Service.Mails q)) c = ap (λ (z : Bool). if z then (number, frame) ∷ [] else []) (comes_own room script n m (Some (Service.Mails q)) c q refl)

none_mailed : (lens : ℕ → Lens) (made number : ℕ) (ds : List Raw.Datagram) (as' : List Leads) (us : List Turn) → AllTurn lens made ds as' us → (k : ℕ) → mail_begun number made (begun_of us k) ≡ []
none_mailed lens made number ds [] [] t k = refl
none_mailed lens made number ds [] (u ∷ us) t k = absurd t
none_mailed lens made number ds (a ∷ as') [] t k = absurd t
none_mailed lens made number ds (a ∷ as') (u ∷ us) t zero = one_mailed (lens a.lived.spot.station).out a.script a.number u.number number made u.begun t.0.comes
none_mailed lens made number ds (a ∷ as') (u ∷ us) t (suc k) = none_mailed lens made number ds as' us t.1 k

-- ---- WHAT HAPPENED AT THE SWITCH, one frame more
abbrev begun_same : (Old New : List SwitchEvent → Type 0) (ports : List (Option ℕ)) (many : ℕ) (us : List Turn) (es : List SwitchEvent) → ((old : List SwitchEvent) → Old old → New old) → BegunOn Old ports many us es → BegunOn New ports many us es
begun_same Old New ports many us es on h = record {
  old = h.old;
  was = on h.old h.was;
  making = h.making;
  visited = h.visited;
  once = h.once;
  taken = h.taken;
  others = h.others;
  quiet = h.quiet;
  behind = h.behind;
  none = h.none;
  whole = h.whole;
}

-- by lives that are the same
listed_same : (lens : ℕ → Lens) (recover retry : ℕ) (ports : List (Option ℕ)) (Old New : List SwitchEvent → Type 0) (f : Exchanged) (us : List Turn) (as' bs : List Leads) (js ks : List Joined) (es : List SwitchEvent) → as' ≡ bs → js ≡ ks → ((old : List SwitchEvent) → Old old → New old) →
    ListedOn lens recover retry ports Old f us as' js es → ListedOn lens recover retry ports New f us bs ks es
listed_same lens recover retry ports Old New f us as' bs js ks es leads joined on h =
    subst (λ (z : List Joined). ListedOn lens recover retry ports New f us bs z es) joined
    (subst (λ (z : List Leads). ListedOn lens recover retry ports New f us z js es) leads
    (record { old = h.old; was = on h.old h.was; making = h.making; only = h.only; visit = h.visit; carries = h.carries; whole = h.whole }))

-- ---- THE LIVES OF SUCH A SERVING ARE THOSE OF A RUN
pub record IsRun (plan : Scenario) {fs : List Exchanged} {missed : ℕ} {ws : List Serves} (l : ServeTo plan fs missed ws) : Type 0 where
  pub leads : List Leads
  pub lives : LeadTo plan fs missed leads
  pub quiet : IsRunOf ws leads
  pub heard : heard_in lives ≡ served_heard l
  pub joined : joined_in lives ≡ served_joined l
  pub begun : (k : ℕ) → frames_begun lives k ≡ served_begun l k
  pub mails : (k : ℕ) → served_mails l k ≡ []
  pub written : (k : ℕ) → packets_written lives k ≡ served_written l k
  pub due : WereDue lives → WereServedDue l
  pub listed : (es : List SwitchEvent) → ServedListed (ports_behind 0 plan.slaves) l es → ListsAll plan lives es
  pub begins : (es : List SwitchEvent) → AreServedBegun (ports_behind 0 plan.slaves) (ports_of plan.slaves) l es → BeginsAll plan lives es
  pub numbered : (es : List SwitchEvent) (ns : List ℕ) → ServedNumbered (ports_behind 0 plan.slaves) (ports_of plan.slaves) l es ns → NumbersAll plan lives es ns

-- before the first frame
pub first_run : (paces : List ℕ) (rows : List (ℕ × Plan.Service)) (place : ℕ) (ss : List SlaveSpec) → IsRunOf (all_serve paces (leads_from rows place ss)) (leads_from rows place ss)
first_run [] rows place [] = tt
first_run (pace ∷ paces) rows place [] = tt
first_run [] rows place (s ∷ ss) = (record { lead = refl; waits = refl; unpassed = refl }, first_run [] rows (suc place) ss)
first_run (pace ∷ paces) rows place (s ∷ ss) = (record { lead = refl; waits = refl; unpassed = refl }, first_run paces rows (suc place) ss)

run_begins : (plan : Scenario) → IsRun plan {ws = all_serve plan.paces (first_leads plan)} IsServedLed.start
run_begins plan = record {
  leads = first_leads plan;
  lives = IsLed.start;
  quiet = first_run plan.paces plan.services 0 plan.slaves;
  heard = ap heard_none (sym (serve_leads plan.paces (first_leads plan)));
  joined = ap joined_none (sym (serve_leads plan.paces (first_leads plan)));
  begun = λ k. refl;
  mails = λ k. refl;
  written = λ k. refl;
  due = λ d. d;
  listed = λ es h. h;
  begins = λ es h. h;
  numbered = λ es ns h. h;
}

-- one frame more
module _ (plan : Scenario) (fs : List Exchanged) (missed : ℕ) (ws : List Serves) (l : ServeTo plan fs missed ws) (f : Exchanged) (vs : List ServedTurn) (frame : IsServedFrame (lens_of plan.slaves) (length fs) f.sent ws vs) (r : IsRun plan l) where
  abbrev lens : ℕ → Lens
  lens = lens_of plan.slaves

  abbrev us : List Turn
  us = map run_turn vs

  turns : AllTurn lens (length fs) frame.datagrams r.leads us × AllBare vs
  turns = all_run lens (length fs) frame.datagrams ws vs r.leads frame.each r.quiet

  abbrev led : IsLedFrame lens (length fs) f.sent r.leads us
  led = record { datagrams = frame.datagrams; frame = frame.frame; each = turns.0 }

  abbrev gives : Bool
  gives = gives_up_at lens plan.recover plan.retry missed

  abbrev ours : List Serves
  ours = map (served_behind lens plan.recover plan.retry gives (length fs) f) vs

  abbrev theirs : List Leads
  theirs = map (led_behind lens plan.recover plan.retry gives (length fs) f) us

  same : IsRunOf ours theirs
  same = all_behind lens plan.recover plan.retry gives (length fs) f vs turns.1

  leads_same : theirs ≡ map run_lead ours
  leads_same = sym (leads_of ours theirs same)

  abbrev ports : List (Option ℕ)
  ports = ports_behind 0 plan.slaves

  abbrev Was : List SwitchEvent → Type 0
  Was old = AreServedBegun ports (ports_of plan.slaves) l old

  abbrev Is : List SwitchEvent → Type 0
  Is old = BeginsAll plan r.lives old

  run_on : IsRun plan (IsServedLed.on fs missed ws f vs l frame)
  run_on = record {
    leads = theirs;
    lives = IsLed.on fs missed r.leads f us r.lives led;
    quiet = same;
    heard = ap (λ z. heard_on (λ u. brought_by lens (length fs) f f.fate u) z us) r.heard;
    joined = ap (λ z. joined_on lens f z us) r.joined;
    begun = λ k. ap (λ z. z ++ each_with (length fs) (packet_begun (begun_of us k))) (r.begun k);
    mails = λ k. λ i. r.mails k i ++ none_mailed lens (length fs) (oldest_in ws k) frame.datagrams r.leads us turns.0 k i;
    written = λ k. λ i. written_on lens f (length fs) us (leads_same i) k (r.written k i);
    due = λ d. (r.due d.0, d.1);
    listed = λ es h. listed_same lens plan.recover plan.retry ports (λ old. ServedListed ports l old) (λ old. ListsAll plan r.lives old) f us (map run_lead ours) theirs (served_joined l) (joined_in r.lives) es (sym leads_same) (sym r.joined) r.listed h;
    begins = λ es h. begun_same Was Is ports (ports_of plan.slaves) us es r.begins h;
    numbered = λ es ns h. record {
      step = begun_same Was Is ports (ports_of plan.slaves) us es r.begins h.step;
      listed_old = r.listed h.step.old h.listed_old;
      numbers = h.numbers;
      was = r.numbered h.step.old h.numbers h.was;
      only = h.only;
      counted = h.counted;
    };
  }

-- AND ALL FRAMES
pub run_lives : (plan : Scenario) (fs : List Exchanged) (missed : ℕ) (ws : List Serves) (l : ServeTo plan fs missed ws) → NoneAsked ws → IsRun plan l
run_lives plan _ _ _ IsServedLed.start none = run_begins plan
run_lives plan _ _ _ (IsServedLed.asks fs missed ws place k before may) none = absurd (never_asked (lens_of plan.slaves) place k ws may none)
run_lives plan _ _ _ (IsServedLed.on fs missed ws f vs before frame) none =
    run_on plan fs missed ws before f vs frame
    (run_lives plan fs missed ws before (none_before (lens_of plan.slaves) plan.recover plan.retry (gives_up_at (lens_of plan.slaves) plan.recover plan.retry missed) (length fs) f frame.datagrams ws vs frame.each none))
