-- The numbers of the events at a slave's port over a run, and over a serving.
use Rattle.std.proofs.Common.{◌≡◌, ◌≤◌, ◌+◌, ℕ, suc, Bool, Option, List, ◌++◌, map, length, length-append, sym, ap, ◌∙◌, arith, append-nil}
use Rattle.std.specs.Prelude.{All}
use Rattle.std.proofs.lemmas.List.{map-append}
use Rattle.arrayvec.specs.ArrayVec.{ArrayVec}
use Rattle.master_node.specs.of_eoe_switch.Switch.{switched}
use Rattle.master_node.specs.of_eoe_switch.declared.switching.SwitchEvent.{SwitchEvent}
use Rattle.master_node.specs.of_frame_view.View.{Lens}
use Rattle.master_node.specs.of_life_runs.Led.{Exchanged, Leads, Turn, IsLed, IsLedFrame}
use Rattle.master_node.specs.Begins.{PacketsBegin, begun_of}
use Rattle.master_node.specs.Happened.{arrivals_at, events_of}
use Rattle.master_node.specs.Made.{AreOfMaking}
use Rattle.master_node.specs.declared.lan.Lan.{Lan}
use Rattle.master_node.specs.Serving.{run_turn}
use Rattle.packets_heard.specs.Numbers.{Numbered, NumberedOn, begins, comes_in, each_with, frames_begun, frames_heard, numbers_where}
use Rattle.packets_heard.specs.Over.{AreBegun, IsNoBegun, begun_at, packet_begun, packets_begun}
use Rattle.packets_heard.proofs.Counts.{count, count_append, count_begins, count_comes, each_length, each_next, each_repeat, none_begins, repeat, where_more}
use Rattle.packets_heard.proofs.PacketsRuns.{begun_on, run_begun, serving_begun}
use Rattle.packets_heard.specs.Listed.{IsOwn, Listed, long_ones, packets_at, packets_by}
use Rattle.packets_heard.specs.Heard.{joined_in}
use Rattle.packets_heard.proofs.Carries.{events_making}
use Rattle.packets_heard.proofs.Ports.{long_append, making_arrivals}
use Rattle.packets_heard.proofs.Runs.{packets_more, run_arrivals, serving_arrivals}
use Rattle.packets_heard.specs.Servings.{AreServedBegun, ServedListed, ServedNumbered, served_begun, served_completed, served_joined, served_packets}
use Rattle.master_node.specs.of_life_runs.Served.{Serves, IsServedLed}

-- ---- ONE FRAME MORE, where each event before it has its number
module _ (listed begun : List SwitchEvent → Type 0) (before : List SwitchEvent → List ℕ → Type 0) (ports : List (Option ℕ)) (many made : ℕ) (us : List Turn) (es : List SwitchEvent) (ns : List ℕ) (x : NumberedOn listed begun before ports many made us es ns)
    (long : length x.step.old ≡ length x.numbers) where
  pub frame_length : length es ≡ length ns
  frame_length =
      let whole = ap (λ z. length z) x.step.whole in
      let first = length-append x.step.old (x.step.making ++ x.step.behind) in
      let last = length-append x.step.making x.step.behind in
      let counted = ap (λ z. length z) x.counted in
      let ahead = length-append x.numbers (each_with made x.step.making ++ each_with (suc made) x.step.behind) in
      let both = length-append (each_with made x.step.making) (each_with (suc made) x.step.behind) in
      let making = each_length made x.step.making in
      let behind = each_length (suc made) x.step.behind in
      omega (arith, long, whole, first, last, counted, ahead, both, making, behind)

  -- of events of one kind
  pub frame_numbers : (such : SwitchEvent → Bool) → numbers_where such es ns ≡ numbers_where such x.step.old x.numbers ++ (repeat (count such x.step.making) made ++ repeat (count such x.step.behind) (suc made))
  frame_numbers such = (λ i. numbers_where such (x.step.whole i) (x.counted i)) ∙ where_more such x.step.old x.step.making x.step.behind x.numbers made long

  pub frame_count : (such : SwitchEvent → Bool) → count such es ≡ count such x.step.old + (count such x.step.making + count such x.step.behind)
  frame_count such =
      let whole = ap (λ z. count such z) x.step.whole in
      let first = count_append such x.step.old (x.step.making ++ x.step.behind) in
      let last = count_append such x.step.making x.step.behind in
      omega (arith, whole, first, last)

  module _ (p : ℕ) (packets here : List (ArrayVec ℕ)) where
    -- PACKETS THAT BEGIN have the number of the frame
    frame_begins : (frames : List ℕ) → begun_at p es ≡ length (packets ++ here) → begun_at p x.step.old ≡ length packets → numbers_where (begins p) x.step.old x.numbers ≡ frames → numbers_where (begins p) es ns ≡ frames ++ each_with made here
    frame_begins frames now was old =
        frame_numbers (begins p) ∙ (λ i. old i ++ (repeat (making i) made ++ repeat (behind i) (suc made)))
        ∙ ap (λ z. frames ++ z) (append-nil (repeat (length here) made) ∙ sym (each_repeat made here))
      where
        behind : count (begins p) x.step.behind ≡ 0
        behind = none_begins p x.step.behind x.step.none

        making : count (begins p) x.step.making ≡ length here
        making =
            let all = count_begins p es in
            let first = count_begins p x.step.old in
            let long = length-append packets here in
            let sum = frame_count (begins p) in
            omega (arith, all, first, now, was, long, sum, behind)

    -- those that come in the number behind it
    frame_comes : 1 ≤ p → (frames : List ℕ) → length (arrivals_at p es) ≡ length (packets ++ here) → length (arrivals_at p x.step.old) ≡ length packets → numbers_where (comes_in p) x.step.old x.numbers ≡ map (λ n. suc n) frames →
        numbers_where (comes_in p) es ns ≡ map (λ n. suc n) (frames ++ each_with made here)
    frame_comes some frames now was old =
        frame_numbers (comes_in p) ∙ (λ i. old i ++ (repeat (making i) made ++ repeat (behind i) (suc made)))
        ∙ ap (λ z. map (λ n. suc n) frames ++ z) (sym (each_next made here ∙ each_repeat (suc made) here))
        ∙ sym (map-append (λ n. suc n) frames (each_with made here))
      where
        making : count (comes_in p) x.step.making ≡ 0
        making = count_comes p x.step.making ∙ ap (λ z. length z) (making_arrivals p x.step.making some x.only)

        behind : count (comes_in p) x.step.behind ≡ length here
        behind =
            let all = count_comes p es in
            let first = count_comes p x.step.old in
            let long = length-append packets here in
            let sum = frame_count (comes_in p) in
            omega (arith, all, first, now, was, long, sum, making)

module _ {lens : ℕ → Lens} {recover retry : ℕ} (ports : List (Option ℕ)) (many : ℕ) where
  -- EACH EVENT HAS ITS NUMBER, over a run
  pub numbered_many : {first : List Leads} {fs : List Exchanged} {missed : ℕ} {as' : List Leads} (led : IsLed lens recover retry first fs missed as') (es : List SwitchEvent) (ns : List ℕ) → Numbered ports many led es ns → length es ≡ length ns
  numbered_many IsLed.start es ns x = ap (λ z. length z) x.0 ∙ sym (ap (λ z. length z) x.1)
  numbered_many (IsLed.on fs missed as' f us led frame) es ns x =
      frame_length (λ old. Listed lens recover retry ports led old) (λ old. AreBegun ports many led old) (λ old numbers. Numbered ports many led old numbers) ports many (length fs) us es ns x (numbered_many led x.step.old x.numbers x.was)

  -- and over a serving
  pub serving_numbered : {first : List Serves} {fs : List Exchanged} {missed : ℕ} {ws : List Serves} (led : IsServedLed lens recover retry first fs missed ws) (es : List SwitchEvent) (ns : List ℕ) → ServedNumbered ports many led es ns → length es ≡ length ns
  serving_numbered IsServedLed.start es ns x = ap (λ z. length z) x.0 ∙ sym (ap (λ z. length z) x.1)
  serving_numbered (IsServedLed.asks fs missed ws place key led may) es ns x = serving_numbered led es ns x
  serving_numbered (IsServedLed.on fs missed ws f vs led frame) es ns x =
      frame_length (λ old. ServedListed ports led old) (λ old. AreServedBegun ports many led old) (λ old numbers. ServedNumbered ports many led old numbers) ports many (length fs) (map run_turn vs) es ns x (serving_numbered led x.step.old x.numbers x.was)

  module _ (k p : ℕ) (own : IsOwn ports k p) where
    -- A PACKET BEGINS with the number of the frame before which it came into hand
    pub numbers_begun : {first : List Leads} {fs : List Exchanged} {missed : ℕ} {as' : List Leads} (led : IsLed lens recover retry first fs missed as') (es : List SwitchEvent) (ns : List ℕ) → Numbered ports many led es ns → numbers_where (begins p) es ns ≡ frames_begun led k
    numbers_begun IsLed.start es ns x = λ i. numbers_where (begins p) (x.0 i) (x.1 i)
    numbers_begun (IsLed.on fs missed as' f us led frame) es ns x =
        frame_begins (λ old. Listed lens recover retry ports led old) (λ old. AreBegun ports many led old) (λ old numbers. Numbered ports many led old numbers) ports many (length fs) us es ns x (numbered_many led x.step.old x.numbers x.was)
        p (packets_begun led k) (packet_begun (begun_of us k)) (frames_begun led k) (run_begun ports many k p own (IsLed.on fs missed as' f us led frame) es x.step) (run_begun ports many k p own led x.step.old x.step.was)
        (numbers_begun led x.step.old x.numbers x.was)

    pub serving_begins : {first : List Serves} {fs : List Exchanged} {missed : ℕ} {ws : List Serves} (led : IsServedLed lens recover retry first fs missed ws) (es : List SwitchEvent) (ns : List ℕ) → ServedNumbered ports many led es ns → numbers_where (begins p) es ns ≡ served_begun led k
    serving_begins IsServedLed.start es ns x = λ i. numbers_where (begins p) (x.0 i) (x.1 i)
    serving_begins (IsServedLed.asks fs missed ws place key led may) es ns x = serving_begins led es ns x
    serving_begins (IsServedLed.on fs missed ws f vs led frame) es ns x =
        frame_begins (λ old. ServedListed ports led old) (λ old. AreServedBegun ports many led old) (λ old numbers. ServedNumbered ports many led old numbers) ports many (length fs) (map run_turn vs) es ns x (serving_numbered led x.step.old x.numbers x.was)
        p (served_packets led k) (packet_begun (begun_of (map run_turn vs) k)) (served_begun led k) (serving_begun ports many k p own (IsServedLed.on fs missed ws f vs led frame) es x.step) (serving_begun ports many k p own led x.step.old x.step.was)
        (serving_begins led x.step.old x.numbers x.was)

    -- ONE COMES IN with the number behind the frame that brought its last fragment
    pub numbers_heard : {first : List Leads} {fs : List Exchanged} {missed : ℕ} {as' : List Leads} (led : IsLed lens recover retry first fs missed as') (es : List SwitchEvent) (ns : List ℕ) → Listed lens recover retry ports led es → Numbered ports many led es ns →
        numbers_where (comes_in p) es ns ≡ map (λ n. suc n) (frames_heard ports led k)
    numbers_heard IsLed.start es ns l x = λ i. numbers_where (comes_in p) (x.0 i) (x.1 i)
    numbers_heard (IsLed.on fs missed as' f us led frame) es ns l x =
        frame_comes (λ old. Listed lens recover retry ports led old) (λ old. AreBegun ports many led old) (λ old numbers. Numbered ports many led old numbers) ports many (length fs) us es ns x (numbered_many led x.step.old x.numbers x.was)
        p (long_ones (packets_at (joined_in led) k)) (long_ones (packets_by lens recover retry ports f f.fate us (joined_in led) k)) own.behind (frames_heard ports led k)
        (ap (λ z. length z) (run_arrivals lens recover retry ports k p own (IsLed.on fs missed as' f us led frame) es l ∙ ap long_ones (packets_more lens recover retry ports f (joined_in led) us k)
        ∙ long_append (packets_at (joined_in led) k) (packets_by lens recover retry ports f f.fate us (joined_in led) k)))
        (ap (λ z. length z) (run_arrivals lens recover retry ports k p own led x.step.old x.listed_old)) (numbers_heard led x.step.old x.numbers x.listed_old x.was)

    pub serving_comes : {first : List Serves} {fs : List Exchanged} {missed : ℕ} {ws : List Serves} (led : IsServedLed lens recover retry first fs missed ws) (es : List SwitchEvent) (ns : List ℕ) → ServedListed ports led es → ServedNumbered ports many led es ns →
        numbers_where (comes_in p) es ns ≡ map (λ n. suc n) (served_completed ports led k)
    serving_comes IsServedLed.start es ns l x = λ i. numbers_where (comes_in p) (x.0 i) (x.1 i)
    serving_comes (IsServedLed.asks fs missed ws place key led may) es ns l x = serving_comes led es ns l x
    serving_comes (IsServedLed.on fs missed ws f vs led frame) es ns l x =
        frame_comes (λ old. ServedListed ports led old) (λ old. AreServedBegun ports many led old) (λ old numbers. ServedNumbered ports many led old numbers) ports many (length fs) (map run_turn vs) es ns x (serving_numbered led x.step.old x.numbers x.was)
        p (long_ones (packets_at (served_joined led) k)) (long_ones (packets_by lens recover retry ports f f.fate (map run_turn vs) (served_joined led) k)) own.behind (served_completed ports led k)
        (ap (λ z. length z) (serving_arrivals lens recover retry ports k p own (IsServedLed.on fs missed ws f vs led frame) es l ∙ ap long_ones (packets_more lens recover retry ports f (served_joined led) (map run_turn vs) k)
        ∙ long_append (packets_at (served_joined led) k) (packets_by lens recover retry ports f f.fate (map run_turn vs) (served_joined led) k)))
        (ap (λ z. length z) (serving_arrivals lens recover retry ports k p own led x.step.old x.listed_old)) (serving_comes led x.step.old x.numbers x.listed_old x.was)

-- ONE FRAME MORE, as a master lists it and its book numbers it
module _ {lens : ℕ → Lens} {recover retry missed : ℕ} (ports : List (Option ℕ)) (many : ℕ) {first as' : List Leads} {fs : List Exchanged} (led : IsLed lens recover retry first fs missed as') (f : Exchanged) (us : List Turn) (frame : IsLedFrame lens (length fs) f.sent as' us) where
  pub numbered_on : (m n : Lan) (es behind : List SwitchEvent) (ns ns' : List ℕ) → Listed lens recover retry ports led es → AreBegun ports many led es → Numbered ports many led es ns → m.ports.items ≡ ports → AreOfMaking m.happened →
      PacketsBegin (switched many es).switch us m → (switched many (es ++ events_of m.happened)).switch ≡ m.switch → All IsNoBegun behind → ns' ≡ ns ++ (each_with (length fs) (events_of m.happened) ++ each_with (suc (length fs)) behind) →
      Numbered ports many (IsLed.on fs missed as' f us led frame) (es ++ (events_of m.happened ++ behind)) ns'
  unfolding begun_on
  numbered_on m n es behind ns ns' listed begun was same making begins stands none counted = record {
    step = begun_on (λ old. AreBegun ports many led old) ports many us m n es behind begun same begins stands none;
    listed_old = listed;
    numbers = ns;
    was = was;
    only = events_making m.happened making;
    counted = counted;
  }
