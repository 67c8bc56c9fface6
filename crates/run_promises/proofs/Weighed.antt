-- WHAT ONE SLAVE'S PACKETS COME TO: those that came into hand of it, those that it sent back, and those that its downloads emitted.
use Rattle.std.proofs.Common.{◌≡◌, ℕ, suc, ◌+◌, ◌*◌, ◌/◌, ◌≤◌, ◌==◌, ◌&&◌, ◌||◌, not, Bool, true, false, cond, Option, Some, None, List, [], ◌∷◌, ◌++◌, take, length, filter, refl, sym, ap, ◌∙◌, subst, arith, if◌then◌else◌}
use Rattle.std.specs.Prelude.{◌%◌, sum_by, slice_get, option_map, nat_lt}
use Rattle.std.proofs.lemmas.List.Elements.{filter-append}
use Rattle.std.proofs.lemmas.List.Sums.{sum_by-cons, sum_by-append}
use Rattle.std.proofs.lemmas.Nat.{mul-le}
use Rattle.std.proofs.lemmas.Option.{slice_get_within, get_or_from_slice_get}
use Rattle.std.proofs.Math.Seq.{take-suc}
use Rattle.packets_heard.specs.of_coe_client.Talk.{service_view}
use Rattle.packets_heard.specs.of_protocol_models.CoeServer.{emergency, packet, emission_of}
use Rattle.packets_heard.specs.of_protocol_models.EoeClient as EoeClient
use Rattle.packets_heard.specs.of_protocol_models.Echo.{echo_of}
use Rattle.served_rings.specs.of_life_counts.Begun.{service_most, begun_most}
use Rattle.packets_heard.specs.of_life_runs.Led.{Comes}
use Rattle.packets_heard.specs.of_master_hand.Brings.{as_list}
use Rattle.packets_heard.specs.of_master_hand.Spoken.{Asked, sdo, file, drive, net, passed}
use Rattle.packets_heard.specs.of_master_hand.Talk.{asked_of}
use Rattle.packets_heard.specs.of_object_dictionary.declared.service.SdoService.{SdoService}
use Rattle.served_rings.specs.of_run_work.Packets.{cuts, may_echo, waiting_work}
use Rattle.served_rings.specs.of_life_counts.Asked.{asked_most}
use Rattle.served_rings.specs.of_life_counts.Split.{sdo_cuts, entering}
use Rattle.served_rings.specs.of_run_frames.Came.{handed_over, AreThose, is_packet}
use Rattle.served_rings.proofs.of_run_frames.Came.{listed}
use Rattle.packets_heard.specs.of_segment_plan.declared.service.Service as Plan
use Rattle.served_rings.specs.of_few_replies.Shapes.{Shape, sdo_emission, echo_mails}
use Rattle.packets_heard.specs.of_life_runs.Came.{ServedCame}
use Rattle.packets_heard.specs.of_life_runs.Served.{Keyed}
use Rattle.served_rings.specs.of_slave_model.Profile.{Profile}
use Rattle.run_promises.specs.Sends.{of_emission, asked_sends, sends_most, all_most}
use Rattle.packets_heard.specs.of_state_model.Stated.{Service}
use Rattle.run_promises.proofs.Begun.{weight, weights}

-- what a law says of echoes
pub record Echoes (mac : List ℕ) : Type 0 where
  pub same : (packet echo : List ℕ) → echo_of mac packet ≡ Some echo → (may_echo echo ≡ false) × (length echo ≡ length packet)
  pub may : (packet echo : List ℕ) → echo_of mac packet ≡ Some echo → may_echo packet ≡ true

-- those that pass, and those that don't
parted : {X : Type 0} (f : X → ℕ) (p : X → Bool) (xs : List X) → sum_by f xs ≡ sum_by f (filter p xs) + sum_by f (filter (λ x. not (p x)) xs)
parted f p [] = refl
parted f p (x ∷ xs) = omega (arith, sum_by-cons f x xs, parted f p xs, one (p x))
  where
    one : (b : Bool) → sum_by f (cond b (x ∷ filter p xs) (filter p xs)) + sum_by f (cond (not b) (x ∷ filter (λ y. not (p y)) xs) (filter (λ y. not (p y)) xs)) ≡ f x + (sum_by f (filter p xs) + sum_by f (filter (λ y. not (p y)) xs))
    one true = omega (arith, sum_by-cons f x (filter p xs))
    one false = omega (arith, sum_by-cons f x (filter (λ y. not (p y)) xs))

module _ (n : ℕ) (p : Profile) (law : Echoes p.mac) where
  -- the fragments of what goes back of a service
  abbrev pub echo_cuts : Service Asked → ℕ
  echo_cuts q = sends_most (waiting_work n) p q

  -- of packets together
  abbrev pub echoes : List (Service Asked) → ℕ
  echoes qs = sum_by echo_cuts (filter is_packet qs)

  echo_weighs : (octets echo : List ℕ) → echo_of p.mac octets ≡ Some echo → (waiting_work n echo ≡ cuts octets) × (waiting_work n octets ≡ cuts octets * (n + 1))
  echo_weighs octets echo e =
      let s = law.same octets echo e in
      let away : waiting_work n echo ≡ cuts echo * 1 = ap (λ (z : Bool). cuts echo * (if z then n + 1 else 1)) s.0 in
      let long : cuts echo ≡ cuts octets = ap (λ z. (z + 31) / 32) s.1 in
      (once (waiting_work n echo) (cuts echo) (cuts octets) away long, ap (λ (z : Bool). cuts octets * (if z then n + 1 else 1)) (law.may octets echo e))
    where
      once : (w a b : ℕ) → w ≡ a * 1 → a ≡ b → w ≡ b
      once w a b e f = omega (arith, e, f)

  least_weight : (octets : List ℕ) → cuts octets ≤ waiting_work n octets
  least_weight octets = go (may_echo octets) (cuts octets)
    where
      go : (b : Bool) (c : ℕ) → c ≤ c * (if b then n + 1 else 1)
      go true c = omega (arith, mul-le c 1 c (n + 1) (omega arith) (omega arith))
      go false c = omega arith

  most_weight : (octets : List ℕ) → waiting_work n octets ≤ cuts octets * (n + 1)
  most_weight octets = go (may_echo octets) (cuts octets)
    where
      go : (b : Bool) (c : ℕ) → c * (if b then n + 1 else 1) ≤ c * (n + 1)
      go true c = omega arith
      go false c = mul-le c 1 c (n + 1) (omega arith) (omega arith)

  -- ---- ONE PACKET: it takes its fragments and those of its echo, and comes to as much as it does at a port of n slaves
  one_echo : (octets : List ℕ) (sent : Option (List ℕ)) → echo_of p.mac octets ≡ sent → (echo_mails sent ≡ sum_by (waiting_work n) (as_list sent)) × (cuts octets + n * sum_by (waiting_work n) (as_list sent) ≤ waiting_work n octets)
  one_echo octets None e = (refl, nothing n (cuts octets) (waiting_work n octets) (least_weight octets))
    where
      nothing : (n c w : ℕ) → c ≤ w → c + n * 0 ≤ w
      nothing n c w l = omega (arith, l)
  one_echo octets (Some echo) e =
      let w = echo_weighs octets echo e in
      let one : sum_by (waiting_work n) (echo ∷ []) ≡ waiting_work n echo + 0 = sum_by-cons (waiting_work n) echo [] in
      let long : cuts echo ≡ cuts octets = ap (λ z. (z + 31) / 32) (law.same octets echo e).1 in
      (lengths (cuts echo) (cuts octets) (waiting_work n echo) (sum_by (waiting_work n) (echo ∷ [])) long w.0 one, whole n (cuts octets) (waiting_work n echo) (sum_by (waiting_work n) (echo ∷ [])) (waiting_work n octets) w.0 one w.1)
    where
      lengths : (a b c d : ℕ) → a ≡ b → c ≡ b → d ≡ c + 0 → a ≡ d
      lengths a b c d e f g = omega (arith, e, f, g)

      whole : (n c w s x : ℕ) → w ≡ c → s ≡ w + 0 → x ≡ c * (n + 1) → c + n * s ≤ x
      whole n c w s x e f g =
          let same : s ≡ c = omega (arith, e, f) in
          let turned : n * s ≡ n * c = ap (λ z. n * z) same in
          let parts : c * (n + 1) ≡ c + n * c = omega arith in
          omega (arith, turned, parts, g)

  module _ (k : Shape) (m : ℕ) (pred : n ≡ suc m) where
    abbrev pub count : Asked → ℕ
    count = asked_most p k

    times : (e : ℕ) → e + m * e ≡ n * e
    times e = whole m ∙ ap (λ z. z * e) (sym pred)
      where
        whole : (m : ℕ) → e + m * e ≡ suc m * e
        whole m = omega arith

    both : (c a e me x w : ℕ) → a ≡ e → e + me ≡ x → c + x ≤ w → (c + a) + me ≤ w
    both c a e me x w f g l = omega (arith, f, g, l)

    one_packet : (q : Service Asked) → is_packet q ≡ true → service_most count q + m * echo_cuts q ≤ weight n q
    one_packet (Service.Mails (net (EoeClient.packet octets frame))) e =
        let one = one_echo octets (echo_of p.mac octets) refl in
        let back = sum_by (waiting_work n) (as_list (echo_of p.mac octets)) in
        both (cuts octets) (echo_mails (echo_of p.mac octets)) back (m * back) (n * back) (waiting_work n octets) one.0 (times back) one.1
    one_packet (Service.Mails (sdo q)) e = absurd (let bad : false ≡ true = e in cc)
    one_packet (Service.Mails (file q)) e = absurd (let bad : false ≡ true = e in cc)
    one_packet (Service.Mails (drive q)) e = absurd (let bad : false ≡ true = e in cc)
    one_packet (Service.Mails (net (EoeClient.set_ip block))) e = absurd (let bad : false ≡ true = e in cc)
    one_packet (Service.Mails (net EoeClient.get_ip)) e = absurd (let bad : false ≡ true = e in cc)
    one_packet (Service.Mails (passed m)) e = absurd (let bad : false ≡ true = e in cc)
    one_packet (Service.State target) e = absurd (let bad : false ≡ true = e in cc)

    joined : (m a b c d x y p q w : ℕ) → a + m * b ≤ x → c + m * d ≤ y → p ≡ a + c → q ≡ b + d → w ≡ x + y → p + m * q ≤ w
    joined m a b c d x y p q w l k e f g =
        let spread : m * (b + d) ≡ m * b + m * d = omega arith in
        let turned : m * q ≡ m * (b + d) = ap (λ z. m * z) f in
        omega (arith, l, k, e, g, spread, turned)

    none : (m : ℕ) → 0 + m * 0 ≤ 0
    none m = omega arith

    -- the packets that came into hand
    pub packets_weigh : (qs : List (Service Asked)) → begun_most count (filter is_packet qs) + m * echoes qs ≤ weights n qs
    packets_weigh [] = none m
    packets_weigh (q ∷ qs) = go (is_packet q) refl (packets_weigh qs)
      where
        fs : List (Service Asked)
        fs = filter is_packet qs

        go : (b : Bool) → is_packet q ≡ b → begun_most count fs + m * echoes qs ≤ weights n qs → begun_most count (cond b (q ∷ fs) fs) + m * sum_by echo_cuts (cond b (q ∷ fs) fs) ≤ sum_by (weight n) (cond b (q ∷ fs) fs)
        go false e rest = rest
        go true e rest =
            joined m (service_most count q) (echo_cuts q) (begun_most count fs) (echoes qs) (weight n q) (weights n qs) (begun_most count (q ∷ fs)) (sum_by echo_cuts (q ∷ fs)) (sum_by (weight n) (q ∷ fs))
            (one_packet q e) rest (sum_by-cons (service_most count) q fs) (sum_by-cons echo_cuts q fs) (sum_by-cons (weight n) q fs)

  -- ---- ONE OF A SCRIPT sends what its download emits
  download : (index sub : ℕ) (bytes : List ℕ) → sum_by (waiting_work n) (of_emission (emission_of p.has_eoe (record { index = index; sub = sub; all = false }) bytes)) ≤ (n + 1) * sdo_cuts (SdoService.Download index sub bytes)
  download index sub bytes = go (sub == 1) (index == 0x2F00) p.has_eoe (index == 0x2F01)
    where
      go : (a b c d : Bool) → sum_by (waiting_work n) (of_emission (if false || not a then None else if b then Some (emergency bytes) else if c && d then Some (packet bytes) else None)) ≤ (n + 1) * (if d && a then (length bytes + 31) / 32 else 0)
      go false b c d = omega arith
      go true true c d = omega arith
      go true false true true = whole n (cuts bytes) (waiting_work n bytes) (sum_by (waiting_work n) (bytes ∷ [])) (sum_by-cons (waiting_work n) bytes []) (most_weight bytes)
        where
          whole : (n c w s : ℕ) → s ≡ w + 0 → w ≤ c * (n + 1) → s ≤ (n + 1) * c
          whole n c w s e l = let turned : c * (n + 1) ≡ (n + 1) * c = omega arith in omega (arith, e, l, turned)
      go true false true false = omega arith
      go true false false d = omega arith

  sdo_sends : (service : SdoService) → sum_by (waiting_work n) (of_emission (sdo_emission p (service_view service))) ≤ (n + 1) * sdo_cuts service
  sdo_sends (SdoService.Download index sub bytes) = download index sub bytes
  sdo_sends (SdoService.Upload index sub) = omega arith
  sdo_sends (SdoService.DownloadAll index from bytes) = omega arith
  sdo_sends (SdoService.UploadAll index from) = omega arith
  sdo_sends (SdoService.List kind) = omega arith
  sdo_sends (SdoService.ObjectInfo index) = omega arith
  sdo_sends (SdoService.EntryInfo index sub info) = omega arith

  some_is : {X : Type 0} {x y : X} → Some x ≡ Some y → x ≡ y
  some_is e = cc

  by_mails : (found : Option Asked) (most : ℕ) → ((a : Asked) → found ≡ Some a → sum_by (waiting_work n) (asked_sends p a) ≤ most) → (q : Service Asked) → option_map (λ (a : Asked). Service.Mails a) found ≡ Some q → echo_cuts q ≤ most
  by_mails None most h q e = absurd (let bad : None ≡ Some q = e in cc)
  by_mails (Some a) most h q e = subst (λ k. echo_cuts k ≤ most) (some_is e) (h a refl)

  one_service : (room : ℕ) (t : Plan.Service) (q : Service Asked) → handed_over room t ≡ Some q → echo_cuts q ≤ (n + 1) * entering t
  one_service room (Plan.Service.Sdo service) q e = subst (λ k. echo_cuts k ≤ (n + 1) * sdo_cuts service) (some_is e) (sdo_sends service)
  one_service room (Plan.Service.ReadFile name pass) q e = subst (λ k. echo_cuts k ≤ (n + 1) * 0) (some_is e) (omega arith)
  one_service room (Plan.Service.WriteFile name pass bytes) q e = subst (λ k. echo_cuts k ≤ (n + 1) * 0) (some_is e) (omega arith)
  one_service room (Plan.Service.ReadIdn number idn elements) q e = subst (λ k. echo_cuts k ≤ (n + 1) * 0) (some_is e) (omega arith)
  one_service room (Plan.Service.WriteIdn number idn elements bytes) q e = subst (λ k. echo_cuts k ≤ (n + 1) * 0) (some_is e) (omega arith)
  one_service room (Plan.Service.SetIp block) q e = by_mails (asked_of room (Plan.Service.SetIp block)) ((n + 1) * 0) (λ a is. of (nat_lt room (length block + 10)) a is) q e
    where
      of : (b : Bool) (a : Asked) → (if b then None else Some (net (EoeClient.set_ip block))) ≡ Some a → sum_by (waiting_work n) (asked_sends p a) ≤ (n + 1) * 0
      of true a is = absurd (cc)
      of false a is = subst (λ k. sum_by (waiting_work n) (asked_sends p k) ≤ (n + 1) * 0) (some_is is) (omega arith)
  one_service room Plan.Service.GetIp q e = subst (λ k. echo_cuts k ≤ (n + 1) * 0) (some_is e) (omega arith)
  one_service room (Plan.Service.State target) q e = subst (λ k. echo_cuts k ≤ (n + 1) * 0) (some_is e) (omega arith)
  one_service room (Plan.Service.Forward sent) q e = absurd (let bad : None ≡ Some q = e in cc)

  scripted : (m x y a b p q : ℕ) → x ≤ m * a → y ≤ m * b → p ≡ x + y → q ≡ a + b → p ≤ m * q
  scripted m x y a b p q l k e f =
      let spread : m * (a + b) ≡ m * a + m * b = omega arith in
      let turned : m * q ≡ m * (a + b) = ap (λ z. m * z) f in
      omega (arith, l, k, e, spread, turned)

  those_send : (room : ℕ) (ts : List Plan.Service) (qs : List (Service Asked)) → AreThose room ts qs → sum_by echo_cuts qs ≤ (n + 1) * sum_by entering ts
  those_send room [] [] those = omega arith
  those_send room [] (q ∷ qs) those = absurd those
  those_send room (t ∷ ts) [] those = absurd those
  those_send room (t ∷ ts) (q ∷ qs) those =
      scripted (n + 1) (echo_cuts q) (sum_by echo_cuts qs) (entering t) (sum_by entering ts) (sum_by echo_cuts (q ∷ qs)) (sum_by entering (t ∷ ts))
      (one_service room t q those.0) (those_send room ts qs those.1) (sum_by-cons echo_cuts q qs) (sum_by-cons entering t ts)

  summed : (a b c d : ℕ) → a ≡ b + c → c ≤ d → a ≤ b + d
  summed a b c d e l = omega (arith, e, l)

  -- ALL THAT A SLAVE MAY SEND by the services that came into hand
  pub all_send : (room : ℕ) (ts : List Plan.Service) (qs : List (Service Asked)) → AreThose room ts (filter (λ q. not (is_packet q)) qs) → all_most (waiting_work n) p qs ≤ echoes qs + (n + 1) * sum_by entering ts
  all_send room ts qs those = summed (sum_by echo_cuts qs) (echoes qs) (sum_by echo_cuts (filter (λ q. not (is_packet q)) qs)) ((n + 1) * sum_by entering ts) (parted echo_cuts is_packet qs) (those_send room ts (filter (λ q. not (is_packet q)) qs) those)

  -- ---- over a serving: a mail that is passed on sends nothing
  abbrev over : Option Asked → Option (Service Asked)
  over found = option_map (λ (a : Asked). Service.Mails a) found

  mails_sent : (room : ℕ) (t : Plan.Service) (q : Asked) → asked_of room t ≡ Some q → echo_cuts (Service.Mails q) ≤ (n + 1) * entering t
  mails_sent room (Plan.Service.Sdo service) q e = one_service room (Plan.Service.Sdo service) (Service.Mails q) (ap over e)
  mails_sent room (Plan.Service.ReadFile name pass) q e = one_service room (Plan.Service.ReadFile name pass) (Service.Mails q) (ap over e)
  mails_sent room (Plan.Service.WriteFile name pass bytes) q e = one_service room (Plan.Service.WriteFile name pass bytes) (Service.Mails q) (ap over e)
  mails_sent room (Plan.Service.ReadIdn number idn elements) q e = one_service room (Plan.Service.ReadIdn number idn elements) (Service.Mails q) (ap over e)
  mails_sent room (Plan.Service.WriteIdn number idn elements bytes) q e = one_service room (Plan.Service.WriteIdn number idn elements bytes) (Service.Mails q) (ap over e)
  mails_sent room (Plan.Service.SetIp block) q e = one_service room (Plan.Service.SetIp block) (Service.Mails q) (ap over e)
  mails_sent room Plan.Service.GetIp q e = one_service room Plan.Service.GetIp (Service.Mails q) (ap over e)
  mails_sent room (Plan.Service.State target) q e = absurd (let bad : None ≡ Some q = e in cc)
  mails_sent room (Plan.Service.Forward sent) q e = absurd (let bad : None ≡ Some q = e in cc)

  take_more : (script : List Plan.Service) (i : ℕ) (t : Plan.Service) → slice_get script i ≡ Some t → sum_by entering (take (suc i) script) ≡ sum_by entering (take i script) + entering t
  take_more script i t at =
      let near = slice_get_within script i t at in
      let taken : take (suc i) script ≡ take i script ++ t ∷ [] = take-suc script i t near ∙ ap (λ d. take i script ++ d ∷ []) (get_or_from_slice_get script i t t at) in
      omega (arith, ap (sum_by entering) taken, sum_by-append entering (take i script) (t ∷ []), sum_by-cons entering t [])

  grown : (k x s e t f : ℕ) → x ≤ k * e → t ≡ s + e → x + k * s ≤ f + k * t
  grown k x s e t f l is =
      let spread : k * (s + e) ≡ k * s + k * e = omega arith in
      let turned : k * t ≡ k * (s + e) = ap (λ z. k * z) is in
      omega (arith, l, spread, turned)

  -- what one more of the script may send, or a packet
  one_more : (room : ℕ) (script : List Plan.Service) (i m : ℕ) (b : Option (Service Asked)) → Comes room script i b m →
      sum_by echo_cuts (listed b) + (n + 1) * sum_by entering (take i script) ≤ echoes (listed b) + (n + 1) * sum_by entering (take m script)
  one_more room script i _ _ Comes.none = omega arith
  one_more room script i _ _ (Comes.mails t q at asks) =
      let sent = mails_sent room t q asks in
      grown (n + 1) (sum_by echo_cuts (Service.Mails q ∷ [])) (sum_by entering (take i script)) (entering t) (sum_by entering (take (suc i) script)) (echoes (Service.Mails q ∷ [])) (omega (arith, sent, sum_by-cons echo_cuts (Service.Mails q) [])) (take_more script i t at)
  one_more room script i _ _ (Comes.state target at) =
      let q : Service Asked = Service.State (target % 16) in
      grown (n + 1) (sum_by echo_cuts (q ∷ [])) (sum_by entering (take i script)) 0 (sum_by entering (take (suc i) script)) (echoes (q ∷ [])) (omega (arith, sum_by-cons echo_cuts q [])) (omega (arith, take_more script i (Plan.Service.State target) at))
  one_more room script i _ _ (Comes.packet octets frame) =
      let q : Service Asked = Service.Mails (net (EoeClient.packet octets frame)) in
      let same : echoes (q ∷ []) ≡ sum_by echo_cuts (q ∷ []) = refl in
      omega (arith, same)

  echoes_last : (qs : List (Service Asked)) (q : Service Asked) → echoes (qs ++ q ∷ []) ≡ echoes qs + echoes (q ∷ [])
  echoes_last qs q = ap (sum_by echo_cuts) (filter-append is_packet qs (q ∷ [])) ∙ sum_by-append echo_cuts (filter is_packet qs) (filter is_packet (q ∷ []))

  pub served_send : (room : ℕ) (script : List Plan.Service) (i : ℕ) (ks : List Keyed) (qs : List (Service Asked)) → ServedCame room script i ks qs → all_most (waiting_work n) p qs ≤ echoes qs + (n + 1) * sum_by entering (take i script)
  served_send room script _ _ _ ServedCame.none = omega arith
  served_send room script _ _ _ (ServedCame.own i m ks qs q came comes) =
      omega (arith, served_send room script i ks qs came, one_more room script i m (Some q) comes, sum_by-append echo_cuts qs (q ∷ []), echoes_last qs q)
  served_send room script _ _ _ (ServedCame.mail i ks qs k came) =
      let q : Service Asked = Service.Mails (passed k.mail) in
      omega (arith, served_send room script i ks qs came, sum_by-append echo_cuts qs (q ∷ []), sum_by-cons echo_cuts q [], echoes_last qs q)
