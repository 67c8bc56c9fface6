-- From one mail of the client to the next: client, server and objects go on as the model does.
use Rattle.std.proofs.Common.{◌≡◌, ◌⊎◌, inl, inr, ℕ, ◌+◌, ◌<◌, ◌≤◌, Bool, true, false, List, [], ◌∷◌, ◌++◌, length, Option, None, Some, Result, Ok, Err, refl, sym, ap, ◌∙◌, arith, append_assoc, append-nil, length-append}
use Rattle.coe_client.specs.of_exchange_model.Areas.{Areas, AreMailboxes}
use Rattle.coe_client.specs.of_exchange_model.Exchange.{after, given, plain, emitted}
use Rattle.coe_client.proofs.of_exchange_model.Words.{after-append, given-append, plain-append, plain_given-append}
use Rattle.coe_client.specs.of_object_dictionary.Dictionary.{Table}
use Rattle.coe_client.specs.of_object_dictionary.Sound.{is_table}
use Rattle.coe_client.specs.of_protocol_models.CoeMails.{CoeMail, is_emission}
use Rattle.coe_client.specs.of_object_dictionary.declared.service.SdoService.{SdoService}
use Rattle.coe_client.specs.of_protocol_models.Tables.{Target, Tables, AreLawful}
use Rattle.coe_client.specs.of_protocol_models.CoeServer.{Emission, emergency, packet, emission_of, issued, Server, serve, coe_outcome}
use Rattle.coe_client.specs.of_protocol_models.CoeMeaning.{Service, download, upload, information, meaning_of, download_means, value_means}
use Rattle.coe_client.specs.of_protocol_models.CoeClient.{ends}
use Rattle.coe_client.specs.of_protocol_models.CoeModel.{planned, full, value_length}
use Rattle.coe_client.proofs.of_protocol_models.CoeLaw.{kept, bound, client_follows}
use Rattle.coe_client.proofs.of_protocol_models.CoeClosing.{closed}
use Rattle.coe_client.proofs.of_protocol_models.CoeLasts.{none_behind}
use Rattle.coe_client.proofs.of_protocol_models.Progress.{goes_on}
use Rattle.coe_server.specs.declared.state.Emitted.{Emitted}
use Rattle.coe_client.specs.of_protocol_models.CoeOctets.{body_heard}
use Rattle.coe_server.specs.ObjectTables.{object_tables}
use Rattle.coe_server.specs.Serving.{Serving, transfer_of, waiting_mails, outcome_of}
use Rattle.coe_server.proofs.ObjectsLaw.{lawful}
use Rattle.coe_client.specs.Talk.{Talking, later, awaited, service_view, octets_in}
use Rattle.coe_client.specs.Send.{SendsNext}
use Rattle.coe_law.specs.declared.carried.Emission.{Emission as Kept}
use Rattle.coe_law.specs.Talks.{tables, emission_mails, packet_by, packet_mails, Hears, IsDone, IsAwaited, Talks}
use Rattle.coe_law.proofs.Hearing.{emitted-append}
use Rattle.coe_law.proofs.Serving.{Served, served}

abbrev pub P : List CoeMail → List CoeMail
P ms = plain is_emission ms

abbrev pub E : List CoeMail → List CoeMail
E ms = emitted is_emission ms

no_length : (ms : List CoeMail) → length ms ≡ 0 → ms ≡ []
no_length [] e = refl
no_length (m ∷ ms) e = absurd (omega (arith, e))

plain_packet : (e : Emitted) (octets : List ℕ) → P (packet_by e octets) ≡ []
plain_packet Emitted.Nothing octets = refl
plain_packet Emitted.Emergency octets = refl
plain_packet Emitted.Packet octets = refl

emitted_packet : (e : Emitted) (octets : List ℕ) → E (packet_by e octets) ≡ packet_by e octets
emitted_packet Emitted.Nothing octets = refl
emitted_packet Emitted.Emergency octets = refl
emitted_packet Emitted.Packet octets = refl

-- two lists of which one is empty
swapped : (xs ys : List CoeMail) → length xs + length ys ≤ 1 → xs ++ ys ≡ ys ++ xs
swapped [] ys few = sym (append-nil ys)
swapped (x ∷ xs) [] few = append-nil (x ∷ xs)
swapped (x ∷ xs) (y ∷ ys) few = absurd (omega arith)

pub move_last : (front xs ys : List CoeMail) → length xs + length ys ≤ 1 → (front ++ xs) ++ ys ≡ front ++ (ys ++ xs)
move_last front xs ys few = append_assoc front xs ys ∙ ap (λ l. front ++ l) (swapped xs ys few)

issued_few : (al : ℕ) (objects : Table) (e : Option Emission) → length (issued (tables al) objects e).1 ≤ 1
issued_few al objects None = omega arith
issued_few al objects (Some (emergency octets)) = omega arith
issued_few al objects (Some (packet octets)) = omega arith

download_few : (al : ℕ) (eoe : Bool) (objects : Table) (t : Target) (bytes : List ℕ) (r : Result Table ℕ) → length (download_means (tables al) eoe objects t bytes r).emits ≤ 1
download_few al eoe objects t bytes (Ok changed) = issued_few al changed (emission_of eoe t bytes)
download_few al eoe objects t bytes (Err code) = omega arith

value_few : (objects : Table) (r : Result (List ℕ) ℕ) → length (value_means objects r).emits ≤ 1
value_few objects (Ok bytes) = omega arith
value_few objects (Err code) = omega arith

-- a service emits at most one mail
few_emits : (al : ℕ) (eoe : Bool) (objects : Table) (q : Service) → length (meaning_of (tables al) eoe objects q).emits ≤ 1
few_emits al eoe objects (download t bytes) = download_few al eoe objects t bytes ((tables al).download objects t bytes)
few_emits al eoe objects (upload t) = value_few objects ((tables al).upload objects t)
few_emits al eoe objects (information a) = value_few objects ((tables al).info objects a)

module _ (al : ℕ) (eoe : Bool) (areas : Areas) (sized : AreMailboxes areas) (v : Server Table) (sound : is_table v.app ≡ true) (q : Service) where
  abbrev o : Tables Table
  o = tables al

  abbrev law : AreLawful (tables al)
  law = lawful (λ octets. octets ∷ []) al

  abbrev G : List CoeMail → List CoeMail
  G ms = given (serve (tables al) eoe areas.back) v ms

  abbrev all : List CoeMail
  all = full (tables al) eoe areas v q

  -- what a client has left to send: the plan goes on, or all mails were sent
  abbrev Left : List CoeMail → Talking → Type 0
  Left sent client = ((ms : List CoeMail) → planned areas.out q (P (G sent) ++ ms) ≡ sent ++ later client ms) ⊎ (sent ≡ all) × ((ms : List CoeMail) → later client ms ≡ [])

  -- a client that has a mail to send is not done
  goes_still : (sent : List CoeMail) (client client1 : Talking) (octets : List ℕ) → SendsNext client octets client1 → Left sent client → (ms : List CoeMail) → planned areas.out q (P (G sent) ++ ms) ≡ sent ++ later client ms
  goes_still sent client client1 octets s (inl goes) = goes
  goes_still sent client client1 octets s (inr done) = absurd (let some = s.mails [] in let none = done.1 [] in cc)

  -- a client that has a mail to send has the next one of the service
  pub next_sent : (sent : List CoeMail) (client client1 : Talking) (server : Serving) (objects : Table) (emission : Option Kept) (octets : List ℕ) →
      Talks al eoe areas v q sent client server objects emission → (s : SendsNext client octets client1) → (rest : List CoeMail) × (all ≡ sent ++ s.next ∷ rest)
  next_sent sent client client1 server objects emission octets t s =
      let replies : P (G all) ≡ P (G sent) ++ P (given (serve o eoe areas.back) (after (serve o eoe areas.back) v sent) t.sends.0) =
      ap (λ ms. P (G ms)) (sym t.sends.1) ∙ plain_given-append (serve o eoe areas.back) is_emission v sent t.sends.0 in
      let plans : planned areas.out q (P (G sent)) ≡ sent ++ s.next ∷ later client1 [] =
      ap (planned areas.out q) (sym (append-nil (P (G sent)))) ∙ goes_still sent client client1 octets s t.mails [] ∙ ap (λ l. sent ++ l) (s.mails []) in
      let follows = client_follows o law eoe areas sized v q sound (P (G sent)) _ replies in
      (later client1 [] ++ follows.0, sym follows.1 ∙ ap (λ l. l ++ follows.0) plans ∙ append_assoc sent (s.next ∷ later client1 []) follows.0)

  pub sent_left : (sent : List CoeMail) (client client1 : Talking) (server : Serving) (objects : Table) (emission : Option Kept) (octets : List ℕ) →
      Talks al eoe areas v q sent client server objects emission → SendsNext client octets client1 → length sent < length all
  sent_left sent client client1 server objects emission octets t s =
      let n = next_sent sent client client1 server objects emission octets t s in
      let e = ap length n.1 in
      omega (arith, e, length-append sent (s.next ∷ n.0))

  -- what the server's call did is what the model's server does
  pub served_by : (sent : List CoeMail) (client client1 : Talking) (server server1 : Serving) (objects objects1 : Table) (emission : Option Kept) (octets body : List ℕ) (counts : Bool) →
      Talks al eoe areas v q sent client server objects emission → (s : SendsNext client octets client1) → body ≡ octets →
      coe_outcome (object_tables al) server.eoe server.room objects (transfer_of server) (body_heard body) ≡ outcome_of objects1 server1 counts →
      Served al eoe areas.back (after (serve (tables al) eoe areas.back) v sent) s.next objects1 server1
  served_by sent client client1 server server1 objects objects1 emission octets body counts t s is does =
      served al eoe areas.back (after (serve (tables al) eoe areas.back) v sent) s.next objects objects1 server server1 counts t.app t.transfer
      (ap (λ (b : Bool). coe_outcome (object_tables al) b areas.back objects (transfer_of server) s.next) (sym t.serves)
      ∙ ap (λ n. coe_outcome (object_tables al) server.eoe n objects (transfer_of server) s.next) (sym t.back_room)
      ∙ ap (coe_outcome (object_tables al) server.eoe server.room objects (transfer_of server)) (sym s.read ∙ ap body_heard (sym is)) ∙ does)

  -- of a mail that is sent to a server behind these
  module _ (sent : List CoeMail) (client client1 : Talking) (server : Serving) (objects : Table) (emission : Option Kept) (octets : List ℕ)
      (t : Talks al eoe areas v q sent client server objects emission) (s : SendsNext client octets client1) (same : (ms : List CoeMail) → awaited client1 ms ≡ awaited client ms)
      (objects1 : Table) (server1 : Serving) (d : Served al eoe areas.back (after (serve (tables al) eoe areas.back) v sent) s.next objects1 server1) where
    abbrev W : List CoeMail
    W = waiting_mails server1

    abbrev K : List CoeMail
    K = packet_mails server1

    abbrev sent1 : List CoeMail
    sent1 = sent ++ s.next ∷ []

    gives : G sent1 ≡ G sent ++ (W ++ K)
    gives = given-append (serve o eoe areas.back) v sent (s.next ∷ []) ∙ ap (λ l. G sent ++ l) (append-nil (serve o eoe areas.back (after (serve o eoe areas.back) v sent) s.next).1 ∙ d.gives)

    heard_all : P (G sent1) ≡ P (G sent) ++ P W
    heard_all =
        ap (plain is_emission) gives ∙ plain-append is_emission (G sent) (W ++ K)
        ∙ ap (λ l. P (G sent) ++ l) (plain-append is_emission W K ∙ ap (λ l. P W ++ l) (plain_packet server1.emitted server1.octets) ∙ append-nil (P W))

    emits_all : E (G sent1) ≡ E (G sent) ++ (E W ++ K)
    emits_all =
        ap (emitted is_emission) gives ∙ emitted-append (G sent) (W ++ K)
        ∙ ap (λ l. E (G sent) ++ l) (emitted-append W K ∙ ap (λ l. E W ++ l) (emitted_packet server1.emitted server1.octets))

    whole : (rest : List CoeMail) × (all ≡ sent1 ++ rest)
    whole = let n = next_sent sent client client1 server objects emission octets t s in (n.0, n.1 ∙ sym (append_assoc sent (s.next ∷ []) n.0))

    -- the server's answers are awaited
    pub awaits : IsAwaited client1 (P W)
    awaits =
        let more = P (given (serve o eoe areas.back) (after (serve o eoe areas.back) v sent1) whole.0) in
        let replies : P (G all) ≡ P (G sent) ++ (P W ++ more) =
        ap (λ ms. P (G ms)) whole.1 ∙ plain_given-append (serve o eoe areas.back) is_emission v sent1 whole.0 ∙ ap (λ l. l ++ more) heard_all ∙ append_assoc (P (G sent)) (P W) more in
        (more, (meaning_of o eoe v.app q).reply, same (P W ++ more) ∙ t.replies (P W ++ more) ∙ ap (ends areas.out q) (sym replies) ∙ (kept o law eoe areas sized v q sound).replied)

    -- with what was emitted before there is at most one emission
    few : length (E (G sent)) + (length (E W) + length K) ≤ 1
    few =
        let behind = given (serve o eoe areas.back) (after (serve o eoe areas.back) v sent1) whole.0 in
        let split : E (G all) ≡ E (G sent1) ++ E behind = ap (λ ms. E (G ms)) whole.1 ∙ ap (emitted is_emission) (given-append (serve o eoe areas.back) v sent1 whole.0) ∙ emitted-append (G sent1) behind in
        let counted = ap length split in
        let one = ap length emits_all in
        let total = ap length (kept o law eoe areas sized v q sound).all_emitted in
        omega (arith, counted, one, total, few_emits al eoe v.app q, length-append (E (G sent1)) (E behind), length-append (E (G sent)) (E W ++ K), length-append (E W) K)

    pub packet_few : length (emission_mails emission ++ K) ≤ 1
    packet_few = let e = ap length t.emits in omega (arith, e, few, length-append (emission_mails emission) K)

    pub emission_few : (kept_packet : Option Kept) → emission_mails kept_packet ≡ emission_mails emission ++ K → length (emission_mails kept_packet ++ E W) ≤ 1
    emission_few kept_packet is =
        let e = ap length t.emits in let k = ap length is in
        omega (arith, e, k, few, length-append (emission_mails emission) K, length-append (emission_mails kept_packet) (E W))

    -- a client whose reply is complete has sent all mails
    done_sent : (client2 : Talking) → IsDone client1 (P W) client2 → sent1 ≡ all
    done_sent client2 d = by whole.0 whole.1
      where
        replied : ends areas.out q (P (G sent) ++ d.front) ≡ Some d.reply
        replied = sym (t.replies d.front) ∙ sym (same d.front) ∙ d.whole

        none_more : (more : List CoeMail) → P (G all) ≡ (P (G sent) ++ d.front) ++ more → more ≡ []
        none_more [] is = refl
        none_more (h ∷ more) is = absurd (
            let none = closed h more areas.out q (P (G sent) ++ d.front) d.reply replied in
            let some : ends areas.out q ((P (G sent) ++ d.front) ++ h ∷ more) ≡ Some (meaning_of o eoe v.app q).reply = ap (ends areas.out q) (sym is) ∙ (kept o law eoe areas sized v q sound).replied in cc)

        by : (rest : List CoeMail) → all ≡ sent1 ++ rest → sent1 ≡ all
        by rest is =
            let more = P (given (serve o eoe areas.back) (after (serve o eoe areas.back) v sent1) rest) in
            let heard : P (G sent1) ≡ (P (G sent) ++ d.front) ++ d.back = heard_all ∙ ap (λ l. P (G sent) ++ l) d.parts ∙ sym (append_assoc (P (G sent)) d.front d.back) in
            let split : P (G all) ≡ (P (G sent) ++ d.front) ++ (d.back ++ more) =
            ap (λ ms. P (G ms)) is ∙ plain_given-append (serve o eoe areas.back) is_emission v sent1 rest ∙ ap (λ l. l ++ more) heard ∙ append_assoc (P (G sent) ++ d.front) d.back more in
            let none = none_more (d.back ++ more) split in
            let no_back : length d.back ≡ 0 = omega (arith, ap length none, length-append d.back more) in
            let heard_everything : P (G sent1) ≡ P (G all) = heard ∙ ap (λ l. (P (G sent) ++ d.front) ++ l) (no_length d.back no_back ∙ sym none) ∙ sym split in
            let last = none_behind o law eoe areas sized v q sound sent1 rest is heard_everything in
            sym (is ∙ ap (λ l. sent1 ++ l) last ∙ append-nil sent1)

    -- what is left behind the server's answers
    left_behind : (client2 : Talking) → Hears client1 (P W) client2 → Left sent1 client2
    left_behind client2 h = by h.mails
      where
        by : ((ms : List CoeMail) → later client2 ms ≡ later client1 (P W ++ ms)) ⊎ IsDone client1 (P W) client2 → Left sent1 client2
        by (inr d) = inr (done_sent client2 d, d.none)
        by (inl goes) = inl (λ ms. ap (planned areas.out q) (ap (λ l. l ++ ms) heard_all ∙ append_assoc (P (G sent)) (P W) ms) ∙ goes_still sent client client1 octets s t.mails (P W ++ ms)
            ∙ ap (λ l. sent ++ l) (s.mails (P W ++ ms) ∙ ap (λ l. s.next ∷ l) (sym (goes ms))) ∙ sym (append_assoc sent (s.next ∷ []) (later client2 ms)))

    -- THE STEP
    pub stepped : (server2 : Serving) (kept_packet emission2 : Option Kept) (client2 : Talking) → emission_mails kept_packet ≡ emission_mails emission ++ K → emission_mails emission2 ≡ emission_mails kept_packet ++ E W →
        Hears client1 (P W) client2 → waiting_mails server2 ≡ [] → transfer_of server2 ≡ transfer_of server1 → server2.room ≡ areas.back → server2.eoe ≡ eoe →
        Talks al eoe areas v q sent1 client2 server2 objects1 emission2
    stepped server2 kept_packet emission2 client2 packed emerged h silent transfer room serves =
        let w = after (serve o eoe areas.back) v sent in
        record {
          sends = (whole.0, sym whole.1);
          app = ap (λ (x : Server Table). x.app) (after-append (serve o eoe areas.back) v sent (s.next ∷ [])) ∙ d.app;
          transfer = ap (λ (x : Server Table). x.transfer) (after-append (serve o eoe areas.back) v sent (s.next ∷ [])) ∙ d.transfer ∙ sym transfer;
          silent = silent;
          replies = λ ms. h.replies ms ∙ same (P W ++ ms) ∙ t.replies (P W ++ ms) ∙ ap (ends areas.out q) (sym (append_assoc (P (G sent)) (P W) ms) ∙ ap (λ l. l ++ ms) (sym heard_all));
          mails = left_behind client2 h;
          emits = emerged ∙ ap (λ l. l ++ E W) (packed ∙ ap (λ l. l ++ K) t.emits) ∙ move_last (E (G sent)) K (E W) (omega (arith, few)) ∙ sym emits_all;
          out_room = h.room ∙ s.room ∙ t.out_room;
          back_room = room;
          serves = serves;
        }

  -- ---- the end

  -- a client with nothing to send has sent all mails
  pub all_sent : (sent : List CoeMail) (client : Talking) (server : Serving) (objects : Table) (emission : Option Kept) → Talks al eoe areas v q sent client server objects emission → later client [] ≡ [] → sent ≡ all
  all_sent sent client server objects emission t none = by_left t.mails
    where
      plans : ((ms : List CoeMail) → planned areas.out q (P (G sent) ++ ms) ≡ sent ++ later client ms) → planned areas.out q (P (G sent)) ≡ sent
      plans left = ap (planned areas.out q) (sym (append-nil (P (G sent)))) ∙ left [] ∙ ap (λ l. sent ++ l) none ∙ append-nil sent

      by : (rest : List CoeMail) → sent ++ rest ≡ all → planned areas.out q (P (G sent)) ≡ sent → sent ≡ all
      by [] e plan = sym (append-nil sent) ∙ e
      by (m ∷ rest) e plan =
          let goes = goes_on o eoe areas law sized v q sound sent m rest (sym e) in
          let longer = ap length (goes.1 ∙ plan) in
          absurd (omega (arith, longer, length-append (sent ++ m ∷ []) goes.0, length-append sent (m ∷ [])))

      by_left : Left sent client → sent ≡ all
      by_left (inr done) = done.0
      by_left (inl left) = by t.sends.0 t.sends.1 (plans left)

  pub replied : (sent : List CoeMail) (client : Talking) (server : Serving) (objects : Table) (emission : Option Kept) → Talks al eoe areas v q sent client server objects emission → sent ≡ all →
      awaited client [] ≡ Some (meaning_of (tables al) eoe v.app q).reply
  replied sent client server objects emission t is =
      t.replies [] ∙ ap (ends areas.out q) (append-nil (P (G sent)) ∙ ap (λ ms. P (G ms)) is) ∙ (kept o law eoe areas sized v q sound).replied

  pub objects_are : (sent : List CoeMail) (client : Talking) (server : Serving) (objects : Table) (emission : Option Kept) → Talks al eoe areas v q sent client server objects emission → sent ≡ all →
      objects ≡ (meaning_of (tables al) eoe v.app q).app
  objects_are sent client server objects emission t is =
      sym t.app ∙ ap (λ ms. (after (serve o eoe areas.back) v ms).app) is ∙ (kept o law eoe areas sized v q sound).whole.app

  pub emission_is : (sent : List CoeMail) (client : Talking) (server : Serving) (objects : Table) (emission : Option Kept) → Talks al eoe areas v q sent client server objects emission → sent ≡ all →
      emission_mails emission ≡ (meaning_of (tables al) eoe v.app q).emits
  emission_is sent client server objects emission t is = t.emits ∙ ap (λ ms. E (G ms)) is ∙ (kept o law eoe areas sized v q sound).all_emitted

  pub rest_silent : (sent : List CoeMail) (client : Talking) (server : Serving) (objects : Table) (emission : Option Kept) → Talks al eoe areas v q sent client server objects emission → waiting_mails server ≡ []
  rest_silent sent client server objects emission t = t.silent

-- a service has few mails
short_value : (al : ℕ) (objects : Table) (t : Target) → is_table objects ≡ true → (r : Result (List ℕ) ℕ) → (tables al).upload objects t ≡ r → value_length r ≤ 16384
short_value al objects t sound (Ok bytes) is = (lawful (λ octets. octets ∷ []) al).short objects t bytes sound is
short_value al objects t sound (Err code) is = omega arith

bounded : (al : ℕ) (eoe : Bool) (areas : Areas) (sized : AreMailboxes areas) (v : Server Table) → is_table v.app ≡ true → (service : SdoService) → octets_in service ≤ 16384 →
    bound (tables al) (lawful (λ octets. octets ∷ []) al) eoe areas sized v.app (service_view service) ≤ 16385
bounded al eoe areas sized v sound (SdoService.Download index sub bytes) few = omega arith
bounded al eoe areas sized v sound (SdoService.DownloadAll index from bytes) few = omega arith
bounded al eoe areas sized v sound (SdoService.Upload index sub) few =
    let t : Target = record { index = index; sub = sub; all = false } in
    let s = short_value al v.app t sound ((tables al).upload v.app t) refl in omega (arith, s)
bounded al eoe areas sized v sound (SdoService.UploadAll index from) few =
    let t : Target = record { index = index; sub = from; all = true } in
    let s = short_value al v.app t sound ((tables al).upload v.app t) refl in omega (arith, s)
bounded al eoe areas sized v sound (SdoService.List kind) few = omega arith
bounded al eoe areas sized v sound (SdoService.ObjectInfo index) few = omega arith
bounded al eoe areas sized v sound (SdoService.EntryInfo index sub info) few = omega arith

pub few_mails : (al : ℕ) (eoe : Bool) (areas : Areas) (sized : AreMailboxes areas) (v : Server Table) → is_table v.app ≡ true → (service : SdoService) → octets_in service ≤ 16384 →
    length (full (tables al) eoe areas v (service_view service)) ≤ 16385
few_mails al eoe areas sized v sound service few =
    let k = (kept (tables al) (lawful (λ octets. octets ∷ []) al) eoe areas sized v (service_view service) sound).few in
    omega (arith, k, bounded al eoe areas sized v sound service few)
