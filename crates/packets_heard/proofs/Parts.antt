-- The packets of mails, part by part.
use Rattle.std.proofs.Common.{◌≡◌, ℕ, Option, Some, None, List, [], ◌∷◌, ◌++◌, map, refl, sym, ap, ◌∙◌, append_assoc, append-nil}
use Rattle.master_node.specs.of_eoe.Joining.{taken, joins}
use Rattle.master_node.specs.of_eoe.declared.joining.Joined as Eoe
use Rattle.master_node.specs.of_eoe.declared.joining.Joined.TheVariants.{More, Whole, Dropped}
use Rattle.master_node.specs.of_eoe.declared.joining.Unfinished.{Unfinished}
use Rattle.master_node.specs.of_eoe.declared.message.Fragment.{Fragment}
use Rattle.master_node.specs.of_frame_view.View.{Lens}
use Rattle.master_node.specs.of_frame_view.Seen.{seen}
use Rattle.master_node.specs.of_frame_view.Shares.{AllBoth}
use Rattle.master_node.specs.of_life_model.Lives.{Stand}
use Rattle.master_node.specs.of_life_runs.Led.{Exchanged, Leads, Turn, IsLed}
use Rattle.slave_server.specs.of_link_mails.Body.{Body}
use Rattle.master_node.specs.of_master_hand.Brings.{as_list}
use Rattle.master_node.specs.of_master_hand.Joins.{fragment_in, unfinished_by, completed_by, whole_of, unfinished_behind, packet_in, packets_in}
use Rattle.master_node.specs.Serving.{run_lead, run_turn}
use Rattle.master_node.specs.of_master_side.Heard.{joined_by}
use Rattle.master_node.specs.of_master_tour.Brings.{accepted_at}
use Rattle.packets_heard.specs.Packets.{wholes, as_part, parts}
use Rattle.master_node.specs.of_segment_ring.declared.wire.Fate.{Fate}
use Rattle.master_node.specs.of_segment_ring.declared.wire.Fate.TheVariants.{Pass, Lost}
use Rattle.packets_heard.specs.Heard.{mails_by, Joined, joined_behind, joined_on, joined_none, joined_in, Times, ended, times_behind, times_on, times_none, times_in, packets_of, IsJoined}
use Rattle.packets_heard.specs.Servings.{served_joined, served_times}
use Rattle.master_node.specs.of_life_runs.Served.{Serves, IsServedLed}

-- as the fragments among the mails are joined
whole_first : (j : Eoe.Joined) (js : List Eoe.Joined) (ps : List (List ℕ)) → ps ≡ wholes js → as_list (whole_of j) ++ ps ≡ wholes (j ∷ js)
whole_first More js ps e = e
whole_first (Whole p) js ps e = ap (λ l. p.items ∷ l) e
whole_first Dropped js ps e = e

pub packets_whole : (before : Option Unfinished) (ms : List Body) → packets_in before ms ≡ wholes (joins before (parts fragment_in ms))
packets_whole before [] = refl
packets_whole before (m ∷ ms) = go (fragment_in m) (λ b. packets_whole b ms)
  where
    go : (o : Option Fragment) → ((b : Option Unfinished) → packets_in b ms ≡ wholes (joins b (parts fragment_in ms))) → as_list (completed_by before o) ++ packets_in (unfinished_by before o) ms ≡ wholes (joins before (as_part o ++ parts fragment_in ms))
    go None rest = rest before
    go (Some f) rest = whole_first (taken before f).joined (joins (taken before f).unfinished (parts fragment_in ms)) (packets_in (taken before f).unfinished ms) (rest (taken before f).unfinished)

joined_append : (before : Option Unfinished) (xs ys : List Body) → joined_by unfinished_behind before (xs ++ ys) ≡ joined_by unfinished_behind (joined_by unfinished_behind before xs) ys
joined_append before [] ys = refl
joined_append before (x ∷ xs) ys = joined_append (unfinished_behind before x) xs ys

packets_append : (before : Option Unfinished) (xs ys : List Body) → packets_in before (xs ++ ys) ≡ packets_in before xs ++ packets_in (joined_by unfinished_behind before xs) ys
packets_append before [] ys = refl
packets_append before (x ∷ xs) ys =
    ap (λ l. as_list (packet_in before x) ++ l) (packets_append (unfinished_behind before x) xs ys)
    ∙ sym (append_assoc (as_list (packet_in before x)) (packets_in (unfinished_behind before x) xs) (packets_in (joined_by unfinished_behind (unfinished_behind before x) xs) ys))

-- those of a time more
packets_more : (past : List (List Body)) (ms : List Body) → packets_of (past ++ ms ∷ []) ≡ packets_of past ++ packets_in None ms
packets_more [] ms = append-nil (packets_in None ms)
packets_more (p ∷ past) ms = ap (λ l. packets_in None p ++ l) (packets_more past ms) ∙ sym (append_assoc (packets_in None p) (packets_of past) (packets_in None ms))

packets_ended : (past : List (List Body)) (now : List Body) → packets_of (ended past now) ≡ packets_of past ++ packets_in None now
packets_ended past [] = sym (append-nil (packets_of past))
packets_ended past (m ∷ ms) = packets_more past (m ∷ ms)

-- BEHIND A FRAME
behind_closed : (ms : List Body) (t : Times) (j : Joined) → ms ≡ [] → IsJoined t j → IsJoined (record { past = ended t.past t.now; now = [] }) (record { unfinished = None; packets = j.packets ++ packets_in j.unfinished ms })
behind_closed ms t j e h = record {
  unfinished = refl;
  packets = ap (λ l. j.packets ++ packets_in j.unfinished l) e ∙ append-nil j.packets ∙ h.packets;
}

behind_open : (ms : List Body) (t : Times) (j : Joined) → IsJoined t j → IsJoined (times_behind Stand.Open ms t) (joined_behind Stand.Open ms j)
behind_open ms t j h =
    let before = joined_by unfinished_behind None t.now in
    record {
      unfinished = ap (λ b. joined_by unfinished_behind b ms) h.unfinished ∙ sym (joined_append None t.now ms);
      packets = (λ i. h.packets i ++ packets_in (h.unfinished i) ms) ∙ ap (λ l. l ++ packets_in before ms) (packets_ended t.past t.now)
          ∙ append_assoc (packets_of t.past) (packets_in None t.now) (packets_in before ms)
          ∙ ap (λ l. packets_of t.past ++ l) (sym (packets_append None t.now ms)) ∙ sym (packets_ended t.past (t.now ++ ms));
    }

behind_joined : (station : ℕ) (z : Stand) (ms : List Body) (t : Times) (j : Joined) → ((z ≡ Stand.Open → ⊥) → ms ≡ []) → IsJoined t j → IsJoined (times_behind z ms t) (joined_behind z ms j)
behind_joined station (Stand.Opens o) ms t j e h = behind_closed ms t j (e (λ bad. absurd (cc))) h
behind_joined station Stand.Open ms t j e h = behind_open ms t j h
behind_joined station Stand.Gone ms t j e h = behind_closed ms t j (e (λ bad. absurd (cc))) h

no_mails : (lens : ℕ → Lens) (f : Exchanged) (fate : Fate) (u : Turn) → (u.lived.life.stand ≡ Stand.Open → ⊥) → mails_by lens f fate u ≡ []
no_mails lens f (Lost after) u n = refl
no_mails lens f Pass u n = go u.lived.life.stand n
  where
    go : (z : Stand) → (z ≡ Stand.Open → ⊥) → accepted_at u.lived.spot.station u.lived.life.era.side.halves (seen lens f.back) z ≡ []
    go (Stand.Opens o) m = refl
    go Stand.Open m = absurd (m refl)
    go Stand.Gone m = refl

all_behind : (lens : ℕ → Lens) (f : Exchanged) (ts : List Times) (js : List Joined) (us : List Turn) → AllBoth IsJoined ts js → AllBoth IsJoined (times_on lens f ts us) (joined_on lens f js us)
all_behind lens f [] [] us h = tt
all_behind lens f [] (j ∷ js) us h = absurd h
all_behind lens f (t ∷ ts) [] us h = absurd h
all_behind lens f (t ∷ ts) (j ∷ js) [] h = h
all_behind lens f (t ∷ ts) (j ∷ js) (u ∷ us) h = (behind_joined u.lived.spot.station u.lived.life.stand (mails_by lens f f.fate u) t j (no_mails lens f f.fate u) h.0, all_behind lens f ts js us h.1)

none_joined : (as' : List Leads) → AllBoth IsJoined (times_none as') (joined_none as')
none_joined [] = tt
none_joined (a ∷ as') = (record { unfinished = refl; packets = refl }, none_joined as')

pub run_joined : {lens : ℕ → Lens} {recover retry : ℕ} {first : List Leads} {fs : List Exchanged} {missed : ℕ} {as' : List Leads} (led : IsLed lens recover retry first fs missed as') → AllBoth IsJoined (times_in led) (joined_in led)
run_joined {first = first} IsLed.start = none_joined first
run_joined {lens = lens} (IsLed.on fs missed as' f us led frame) = all_behind lens f (times_in led) (joined_in led) us (run_joined led)

pub serving_joined : {lens : ℕ → Lens} {recover retry : ℕ} {first : List Serves} {fs : List Exchanged} {missed : ℕ} {ws : List Serves} (led : IsServedLed lens recover retry first fs missed ws) → AllBoth IsJoined (served_times led) (served_joined led)
serving_joined {first = first} IsServedLed.start = none_joined (map run_lead first)
serving_joined (IsServedLed.asks fs missed ws place k led may) = serving_joined led
serving_joined {lens = lens} (IsServedLed.on fs missed ws f vs led frame) = all_behind lens f (served_times led) (served_joined led) (map run_turn vs) (serving_joined led)
