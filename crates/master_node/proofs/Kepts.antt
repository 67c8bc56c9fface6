-- What stays of a master.
use Rattle.std.proofs.Common.{◌≡◌, ℕ, refl, sym, ap, ◌∙◌, subst}
use Rattle.std.specs.Prelude.{All}
use Rattle.life_runs.specs.of_frame_view.View.{Lens}
use Rattle.life_runs.specs.of_frame_view.Shares.{Lived}
use Rattle.life_runs.specs.of_life_model.Lives.{Spot}
use Rattle.life_runs.specs.Led.{speech_at}
use Rattle.life_runs.specs.of_mailbox_master.Any.{in_area_len}
use Rattle.life_runs.specs.of_master_duty.Reply.{Reply}
use Rattle.life_runs.specs.of_master_hand.Shown.{Shows, SameHand}
use Rattle.life_runs.specs.of_master_hand.Spoken.{Asked}
use Rattle.life_runs.specs.of_master_hand.declared.hand.InHand.{InHand}
use Rattle.life_runs.specs.of_master_side.Shown.{SideShows}
use Rattle.life_runs.specs.of_master_side.declared.hand.Hand.{Ghosts}
use Rattle.life_runs.specs.of_master_side.declared.side.Side.{Side}
use Rattle.life_runs.specs.of_master_tour.Walks.{EachPair}
use Rattle.life_runs.specs.of_master_tour.declared.stop.Stop.{Stop}
use Rattle.life_runs.proofs.of_master_tour.Mades.{lives_on}
use Rattle.life_runs.proofs.of_master_tour.Walks.{each_same}
use Rattle.master_node.specs.declared.node.MasterNode.{MasterNode}
use Rattle.master_node.specs.Shows.{WaitsNone, side_shows, IsLived}
use Rattle.master_node.specs.Numbered.{StaysNumbered}
use Rattle.master_node.specs.Origins.{forwards_at}
use Rattle.master_node.specs.Kept.{SideKept, StopKept, StopStays, TourKept, NodeKept}
use Rattle.master_node.proofs.Lists.{each_trans}

pub same_hand : {G : Ghosts InHand} (s t : Side InHand G) → t.hand ≡ s.hand → SameHand s.hand.course s.hand.which s.hand.clients t.hand.course t.hand.which t.hand.clients
same_hand s t e = record { course_is = ap (λ z. z.course) e; which_is = ap (λ z. z.which) e; clients_are = ap (λ z. z.clients) e }

pub side_same : {G : Ghosts InHand} (s : Side InHand G) → SideKept s.hand.laying.number s s
side_same s = record {
  hand = record { course_is = refl; which_is = refl; clients_are = refl };
  script = refl;
  number = refl;
  side = record { out_is = refl; in_is = refl; fresh_is = refl; duty_is = refl };
  station = refl;
  passing = refl;
  turn = refl;
  paused = refl;
  carried = refl;
  heard = refl;
  found = refl;
  read = refl;
  pace = refl;
}

pub stop_same : {G : Ghosts InHand} (s : Stop InHand G) → StopStays s s
stop_same s = record { side = side_same s.side; stand = refl; place = refl; start = refl; spare = refl; under = refl; at = refl }

-- only its side may have changed
pub stop_side : {G : Ghosts InHand} (n : ℕ) (s t : Stop InHand G) → SideKept n s.side t.side → t.stand ≡ s.stand → t.place ≡ s.place → t.start ≡ s.start → t.spare ≡ s.spare → t.under ≡ s.under → t.at ≡ s.at → StopKept n s t
stop_side n s t k a b c d e f = record { side = k; stand = a; place = b; start = c; spare = d; under = e; at = f }

-- one step after the other
pub stop_on : {G : Ghosts InHand} (n m : ℕ) (s t u : Stop InHand G) → StopKept n s t → StopKept m t u → StopKept m s u
stop_on n m s t u a b = record {
  side = record {
    hand = record { course_is = b.side.hand.course_is ∙ a.side.hand.course_is; which_is = b.side.hand.which_is ∙ a.side.hand.which_is; clients_are = b.side.hand.clients_are ∙ a.side.hand.clients_are };
    script = b.side.script ∙ a.side.script;
    number = b.side.number;
    side = record { out_is = b.side.side.out_is ∙ a.side.side.out_is; in_is = b.side.side.in_is ∙ a.side.side.in_is; fresh_is = b.side.side.fresh_is ∙ a.side.side.fresh_is; duty_is = b.side.side.duty_is ∙ a.side.side.duty_is };
    station = b.side.station ∙ a.side.station;
    passing = b.side.passing ∙ a.side.passing;
    turn = b.side.turn ∙ a.side.turn;
    paused = b.side.paused ∙ a.side.paused;
    carried = b.side.carried ∙ a.side.carried;
    heard = b.side.heard ∙ a.side.heard;
    found = b.side.found ∙ a.side.found;
    read = b.side.read ∙ a.side.read;
    pace = b.side.pace ∙ a.side.pace;
  };
  stand = b.stand ∙ a.stand;
  place = b.place ∙ a.place;
  start = b.start ∙ a.start;
  spare = b.spare ∙ a.spare;
  under = b.under ∙ a.under;
  at = b.at ∙ a.at;
}

pub stop_trans : {G : Ghosts InHand} (s t u : Stop InHand G) → StopStays s t → StopStays t u → StopStays s u
stop_trans s t u a b = subst (λ z. StopKept z s u) a.side.number (stop_on s.side.hand.laying.number t.side.hand.laying.number s t u a b)

pub tour_same : (m n : MasterNode) → n.tour ≡ m.tour → n.made ≡ m.made → TourKept m n
tour_same m n e f = record {
  made = f;
  again = ap (λ z. z.again) e;
  visit = ap (λ z. z.visit) e;
  opened = ap (λ z. z.opened) e;
  last = ap (λ z. z.last) e;
  missed = ap (λ z. z.missed) e;
  retry = ap (λ z. z.retry) e;
  count = ap (λ z. z.count) e;
  passed = ap (λ z. z.passed) e;
}

pub tour_on : (m n o : MasterNode) → TourKept m n → TourKept n o → TourKept m o
tour_on m n o a b = record {
  again = b.again ∙ a.again;
  visit = b.visit ∙ a.visit;
  opened = b.opened ∙ a.opened;
  last = b.last ∙ a.last;
  missed = b.missed ∙ a.missed;
  retry = b.retry ∙ a.retry;
  count = b.count ∙ a.count;
  passed = b.passed ∙ a.passed;
  made = b.made ∙ a.made;
}

-- the master stays where its tour does
pub node_same : (m n : MasterNode) → n.tour ≡ m.tour → n.made ≡ m.made → (All WaitsNone m.posts.items → All WaitsNone n.posts.items) → ((k : ℕ) → forwards_at n.posts.items k ≡ forwards_at m.posts.items k) → EachPair (λ p q. StaysNumbered p q) m.posts.items n.posts.items → NodeKept m n
node_same m n e f q h x = record {
  each = subst (λ z. EachPair (λ s t. StopStays s t) m.tour.stops.items z.stops.items) (sym e) (each_same (λ s t. StopStays s t) m.tour.stops.items (λ s. stop_same s));
  tour = tour_same m n e f;
  quiet = q;
  counts = h;
  numbered = x;
}

pub node_on : (m n o : MasterNode) → NodeKept m n → NodeKept n o → NodeKept m o
node_on m n o a b = record {
  each = each_trans (λ s t. StopStays s t) m.tour.stops.items n.tour.stops.items o.tour.stops.items (λ s t u p q. stop_trans s t u p q) a.each b.each;
  tour = tour_on m n o a.tour b.tour;
  quiet = λ q. b.quiet (a.quiet q);
  counts = λ k. b.counts k ∙ a.counts k;
  numbered = each_trans (λ p q. StaysNumbered p q) m.posts.items n.posts.items o.posts.items (λ p q r x y k h. y k (x k h)) a.numbered b.numbered;
}

-- what a stop shows stays
pub shows_kept : {G : Ghosts InHand} (lens : ℕ → Lens) (recover n : ℕ) (spot : Spot) (s t : Stop InHand G) → StopKept n s t → side_shows lens recover t spot ≡ side_shows lens recover s spot
shows_kept lens recover n spot s t k = λ i d b.
    SideShows (Shows (k.side.hand.course_is i) (k.side.hand.which_is i) (k.side.hand.clients_are i) (speech_at lens spot)) (k.side.side.out_is i) (k.side.side.in_is i) (k.side.side.fresh_is i) (k.side.side.duty_is i) d b

pub lives_kept : {G : Ghosts InHand} (lens : ℕ → Lens) (recover n : ℕ) (a : Lived Asked Reply) (s t : Stop InHand G) → StopKept n s t → IsLived lens recover a s → IsLived lens recover a t
lives_kept lens recover n a s t k v =
    lives_on lens recover (side_shows lens recover s a.spot) (side_shows lens recover t a.spot) s.side.station t.side.station s.place t.place s.start t.start s.stand t.stand s.spare t.spare s.side.out.len t.side.out.len (in_area_len s.side.inn) (in_area_len t.side.inn) a
    (shows_kept lens recover n a.spot s t k) k.side.station k.place k.start k.stand k.spare (ap (λ z. z.len) k.side.side.out_is) (ap in_area_len k.side.side.in_is) v
