-- What becomes of a datagram.
use Rattle.std.proofs.Common.{◌≡◌, ℕ, suc, ◌+◌, ◌≤◌, List, [], ◌∷◌, ◌++◌, length, Bool, true, false, refl, sym, ap, ◌∙◌, subst, arith, ltb-false, eqb-true}
use Rattle.std.proofs.lemmas.Bool.{leb-true}
use Rattle.std.proofs.lemmas.List.Sums.{count_by-le-length}
use Rattle.std.specs.Prelude.{◌==◌, nat_lt, nat_le, slice_get, Option, Some, None, Result, Ok, Err, IfSome, if◌then◌else◌}
use Rattle.slab.specs.Slab.{Slab, Updates, entries, get, slab_len}
use Rattle.slab.proofs.SlabLemmas.{length-entries}
use Rattle.gateway_core.specs.of_ec_outside.Port.{HeardGram}
use Rattle.gateway_core.specs.of_ec_outside.declared.port.Peer.{Peer}
use Rattle.gateway_core.specs.of_mailbox_mail.Mail.{error_of}
use Rattle.gateway_core.specs.of_mailbox_mail.declared.mail.Mail.{Mail}
use Rattle.gateway_core.specs.Framing.{request_in}
use Rattle.gateway_core.specs.Gateway.{place_from, is_passed, judged, judged_at, unfinished_at, error_text, IsAsker, AnswersMail, Answers}
use Rattle.gateway_core.specs.declared.asker.Asked.{Asked}
use Rattle.gateway_core.specs.declared.asker.Asked.TheVariants as asked
use Rattle.gateway_core.specs.declared.asker.Asker.{Asker}
use Rattle.gateway_core.specs.declared.framing.GatewayFault.{GatewayFault}
use Rattle.run_record.specs.of_run_book.declared.book.GramOut.{GramOut}
use Rattle.run_record.specs.of_run_notes.Notes.{stations_of}
use Rattle.run_record.specs.Session.{SessionState}
use Rattle.run_record.proofs.of_run_notes.Stations.{stands_at_home}
use Rattle.gateway_run.specs.Account.{IsFree, Spells, Judges.ignored as is_ignored, Judges.refused as is_refused, Judges.too_many, Judges.queues}
use Rattle.gateway_run.specs.Heard.{IsOwed, IsPassedOn, IsJudged}
use Rattle.gateway_run.specs.Desk.{IsOpen, IsSound, Passes, IsTaken}
use Rattle.gateway_run.specs.declared.desk.Desk.{Desk}
use Rattle.gateway_run.proofs.Accounts.{owes_none, owes_one}
use Rattle.gateway_run.proofs.Desks.{get_last}

module _ (old new : Slab Asker) (peer : Peer) (stations : List (Option (ℕ × ℕ))) where
  -- a datagram that is ignored leaves the requests
  mail_ignored : (mail : Mail) (j : Result ℕ ℕ) → AnswersMail old new peer mail j asked.Ignored → new ≡ old
  mail_ignored mail (Ok slave) q = let e = q.queued in absurd (cc)
  mail_ignored mail (Err detail) e = e.1

  pub ignored : (r : Result Mail GatewayFault) → Answers old new peer stations r asked.Ignored → new ≡ old
  ignored (Ok mail) a = mail_ignored mail (judged old mail stations) a
  ignored (Err fault) a = a.1

  -- it is none by some fault
  none_ignored : (mail : Mail) (j : Result ℕ ℕ) → AnswersMail old new peer mail j asked.Ignored → ⊥
  none_ignored mail (Ok slave) q = let e = q.queued in absurd (cc)
  none_ignored mail (Err detail) e = let no = e.0 in absurd (cc)

  pub faulty : (r : Result Mail GatewayFault) → Answers old new peer stations r asked.Ignored → (fault : GatewayFault) × (r ≡ Err fault)
  faulty (Ok mail) a = absurd (none_ignored mail (judged old mail stations) a)
  faulty (Err fault) a = (fault, refl)

  abbrev octets_of : Asked → List ℕ
  octets_of (asked.Error gram) = gram.items
  octets_of asked.Ignored = []
  octets_of (asked.Queued key slave mail) = []

  -- one that is answered by an error leaves them too
  mail_refused : (mail : Mail) (j : Result ℕ ℕ) (octets : List ℕ) → AnswersMail old new peer mail j (asked.Error (record { items = octets })) →
      (new ≡ old) × (detail : ℕ) × (octets ≡ error_text detail mail)
  mail_refused mail (Ok slave) octets q = let e = q.queued in absurd (cc)
  mail_refused mail (Err detail) octets e = (e.1, detail, ap octets_of e.0)

  pub refused : (r : Result Mail GatewayFault) (octets : List ℕ) → Answers old new peer stations r (asked.Error (record { items = octets })) →
      (new ≡ old) × (mail : Mail) × (detail : ℕ) × (r ≡ Ok mail) × (octets ≡ error_text detail mail)
  refused (Ok mail) octets a = let e = mail_refused mail (judged old mail stations) octets a in (e.0, mail, e.1, refl, e.2)
  refused (Err fault) octets a = let e = a.0 in absurd (cc)

  -- the error is the first whose cause is there
  mail_caused : (mail : Mail) (j : Result ℕ ℕ) (octets : List ℕ) → AnswersMail old new peer mail j (asked.Error (record { items = octets })) → (detail : ℕ) × (j ≡ Err detail) × (octets ≡ error_text detail mail)
  mail_caused mail (Ok slave) octets q = let e = q.queued in absurd (cc)
  mail_caused mail (Err detail) octets e = (detail, refl, ap octets_of e.0)

  pub caused : (r : Result Mail GatewayFault) (octets : List ℕ) → Answers old new peer stations r (asked.Error (record { items = octets })) →
      (mail : Mail) × (detail : ℕ) × (r ≡ Ok mail) × (judged old mail stations ≡ Err detail) × (octets ≡ error_text detail mail)
  caused (Ok mail) octets a = let e = mail_caused mail (judged old mail stations) octets a in (mail, e.0, refl, e.1, e.2)
  caused (Err fault) octets a = let e = a.0 in absurd (cc)

  -- one whose mail is passed on
  pub record IsPut (r : Result Mail GatewayFault) (key slave : ℕ) (mail : Mail) : Type 0 where
    pub asker : Asker
    pub request : r ≡ Ok mail
    pub place : judged old mail stations ≡ Ok slave
    pub vacant : get old key ≡ None
    pub updates : Updates old new key (Some asker)
    pub one : slab_len new ≡ slab_len old + 1
    pub peer_is : asker.peer ≡ peer
    pub station_is : asker.station ≡ mail.address
    pub counter_is : asker.counter ≡ mail.counter

  put_so : (m : Mail) (slave' key' key slave : ℕ) (mail : Mail) (asker : Asker) → asked.Queued key slave mail ≡ asked.Queued key' slave' m → judged old m stations ≡ Ok slave' → get old key' ≡ None →
      Updates old new key' (Some asker) → slab_len new ≡ slab_len old + 1 → IsAsker peer slave' m asker → IsPut (Ok m) key slave mail
  put_so m slave' key' key slave mail asker same place vacant updates one is =
      let k : key' ≡ key = cc in
      let sl : slave' ≡ slave = cc in
      let ml : m ≡ mail = cc in
      record {
        asker = asker;
        request = ap Ok ml;
        place = subst (λ (x : Mail). judged old x stations ≡ Ok slave) ml (place ∙ ap Ok sl);
        vacant = subst (λ (n : ℕ). get old n ≡ None) k vacant;
        updates = subst (λ (n : ℕ). Updates old new n (Some asker)) k updates;
        one = one;
        peer_is = is.of_peer;
        station_is = is.of_station ∙ ap (λ (x : Mail). x.address) ml;
        counter_is = is.of_counter ∙ ap (λ (x : Mail). x.counter) ml;
      }

  mail_put : (m : Mail) (j : Result ℕ ℕ) (key slave : ℕ) (mail : Mail) → judged old m stations ≡ j → AnswersMail old new peer m j (asked.Queued key slave mail) → IsPut (Ok m) key slave mail
  mail_put m (Ok slave') key slave mail is q = put_so m slave' q.key key slave mail q.asker q.queued is q.vacant q.updates q.one q.is_asker
  mail_put m (Err detail) key slave mail is e = let no = e.0 in absurd (cc)

  pub put : (r : Result Mail GatewayFault) (key slave : ℕ) (mail : Mail) → Answers old new peer stations r (asked.Queued key slave mail) → IsPut r key slave mail
  put (Ok m) key slave mail a = mail_put m (judged old m stations) key slave mail refl a
  put (Err fault) key slave mail a = let no = a.0 in absurd (cc)

-- the error that answers a datagram, the last of those heard
pub error_owed : (heard : List HeardGram) (g : HeardGram) (peer : Peer) (octets bytes : List ℕ) (number detail : ℕ) (mail : Mail) → length heard ≡ number → g.from ≡ peer →
    request_in g.bytes ≡ Ok mail → octets ≡ error_text detail mail → bytes ≡ octets → IsOwed (heard ++ g ∷ []) (record { peer = peer; bytes = bytes; gram = number })
error_owed heard g peer octets bytes number detail mail last from request text same = record {
  gram = g;
  asked = mail;
  mail = error_of detail;
  answers = subst (λ (n : ℕ). slice_get (heard ++ g ∷ []) n ≡ Some g) last (get_last heard g);
  request = request;
  peer = sym from;
  text = same ∙ text;
}

-- the same, as it is sent
pub error_spelled : (heard : List HeardGram) (g : HeardGram) (peer : Peer) (octets bytes : List ℕ) (number detail : ℕ) (mail : Mail) → length heard ≡ number → g.from ≡ peer →
    request_in g.bytes ≡ Ok mail → octets ≡ error_text detail mail → bytes ≡ octets → Spells (heard ++ g ∷ []) (record { gram = number; mail = error_of detail }) (record { peer = peer; bytes = bytes; gram = number })
error_spelled heard g peer octets bytes number detail mail last from request text same = record {
  gram = g;
  asked = mail;
  number = refl;
  answers = subst (λ (n : ℕ). slice_get (heard ++ g ∷ []) n ≡ Some g) last (get_last heard g);
  request = request;
  peer = sym from;
  text = same ∙ text;
}

-- the request of a datagram, the last of those heard
pub put_open : (old new : Slab Asker) (peer : Peer) (stations : List (Option (ℕ × ℕ))) (heard : List HeardGram) (g : HeardGram) (key slave number : ℕ) (mail : Mail) (begun : Bool) → length heard ≡ number → g.from ≡ peer →
    IsPut old new peer stations (request_in g.bytes) key slave mail → IsOpen new (heard ++ g ∷ []) (record { key = key; slave = slave; gram = number; begun = begun })
put_open old new peer stations heard g key slave number mail begun last from is = record {
  asker = is.asker;
  gram = g;
  mail = mail;
  stands = is.updates.changed;
  answers = subst (λ (n : ℕ). slice_get (heard ++ g ∷ []) n ≡ Some g) last (get_last heard g);
  request = is.request;
  peer = is.peer_is ∙ sym from;
  station = is.station_is;
  counter = is.counter_is;
}

-- where a station stands
abbrev StandsAt : ℕ → ℕ → List (Option (ℕ × ℕ)) → ℕ × ℕ → Type 0
StandsAt at station rows place = (k : ℕ) × (place.0 ≡ at + k) × (slice_get rows k ≡ Some (Some (station, place.1)))

stands_later : (at station : ℕ) (row : Option (ℕ × ℕ)) (rows : List (Option (ℕ × ℕ))) (place : ℕ × ℕ) → StandsAt (at + 1) station rows place → StandsAt at station (row ∷ rows) place
stands_later at station row rows place more = (suc more.0, (let e = more.1 in omega (arith, e)), more.2)

place_here : (at station : ℕ) (row : ℕ × ℕ) (rows : List (Option (ℕ × ℕ))) (place : ℕ × ℕ) (here : Bool) → (row.0 == station) ≡ here → (if here then Some (at, row.1) else place_from (at + 1) station rows) ≡ Some place →
    (place_from (at + 1) station rows ≡ Some place → StandsAt (at + 1) station rows place) → StandsAt at station (Some row ∷ rows) place
place_here at station row rows place true here is later =
    let s = eqb-true row.0 station here in
    let p : place ≡ (at, row.1) = cc in
    (0, (let e = ap (λ (x : ℕ × ℕ). x.0) p in omega (arith, e)), ap (λ (x : ℕ). Some (Some (x, row.1))) s ∙ ap (λ (x : ℕ × ℕ). Some (Some (station, x.1))) (sym p))
place_here at station row rows place false here is later = stands_later at station (Some row) rows place (later is)

place_at : (at station : ℕ) (rows : List (Option (ℕ × ℕ))) (place : ℕ × ℕ) → place_from at station rows ≡ Some place → StandsAt at station rows place
place_at at station [] place is = absurd (cc)
place_at at station (None ∷ rows) place is = stands_later at station None rows place (place_at (at + 1) station rows place is)
place_at at station (Some row ∷ rows) place is = place_here at station row rows place (row.0 == station) refl is (place_at (at + 1) station rows place)

-- a mail that is to be passed on
abbrev IsPassing : Slab Asker → Mail → Option (ℕ × ℕ) → ℕ → Type 0
IsPassing g mail place slave = (len : ℕ) × (place ≡ Some (slave, len)) × (is_passed mail.kind ≡ true) × (6 + length mail.body.items ≤ len)

abbrev judged_with : ℕ → Bool → Bool → Bool → Result ℕ ℕ
judged_with slave passed long full = if passed then (if long then Err 8 else if full then Err 7 else Ok slave) else Err 2

passes_with : (g : Slab Asker) (mail : Mail) (slave : ℕ) (place : ℕ × ℕ) (passed long full : Bool) → is_passed mail.kind ≡ passed → nat_lt place.1 (6 + length mail.body.items) ≡ long →
    judged_with place.0 passed long full ≡ Ok slave → IsPassing g mail (Some place) slave
passes_with g mail slave place true false false p l is = (place.1, ap (λ (n : ℕ). Some (n, place.1)) (cc), p, ltb-false place.1 (6 + length mail.body.items) l)
passes_with g mail slave place true false true p l is = absurd (cc)
passes_with g mail slave place true true full p l is = absurd (cc)
passes_with g mail slave place false long full p l is = absurd (cc)

passes : (g : Slab Asker) (mail : Mail) (slave : ℕ) (place : Option (ℕ × ℕ)) → judged_at g mail place ≡ Ok slave → IsPassing g mail place slave
passes g mail slave None is = absurd (cc)
passes g mail slave (Some place) is = passes_with g mail slave place (is_passed mail.kind) (nat_lt place.1 (6 + length mail.body.items)) (nat_le 64 (unfinished_at place.0 g)) refl refl is

-- a mail that is to be passed on is for the station of its slave, which stands, and fits its mailbox
pub at_station : (g : Slab Asker) (s : SessionState) (stations : List (Option (ℕ × ℕ))) (mail : Mail) (slave : ℕ) → stations ≡ stations_of s.recover s.homes s.notes → judged g mail stations ≡ Ok slave →
    (len : ℕ) × (slice_get (stations_of s.recover s.homes s.notes) slave ≡ Some (Some (mail.address, len))) × (6 + length mail.body.items ≤ len)
at_station g s stations mail slave are is =
    let p = passes g mail slave (place_from 0 mail.address stations) is in
    let at = place_at 0 mail.address stations (slave, p.0) p.1 in
    let k : slave ≡ at.0 = (let e = at.1 in omega (arith, e)) in (
      p.0,
      subst (λ (n : ℕ). slice_get (stations_of s.recover s.homes s.notes) n ≡ Some (Some (mail.address, p.0))) (sym k)
          (subst (λ (rows : List (Option (ℕ × ℕ))). slice_get rows at.0 ≡ Some (Some (mail.address, p.0))) are at.2),
      p.3,
    )

-- so it is at the home of its slave
pub at_home : (g : Slab Asker) (s : SessionState) (stations : List (Option (ℕ × ℕ))) (mail : Mail) (slave : ℕ) → stations ≡ stations_of s.recover s.homes s.notes → judged g mail stations ≡ Ok slave →
    (len : ℕ) × (slice_get s.homes slave ≡ Some (mail.address, len)) × (6 + length mail.body.items ≤ len)
at_home g s stations mail slave are is =
    let at = at_station g s stations mail slave are is in (at.0, stands_at_home s.recover s.homes s.notes slave (mail.address, at.0) at.1, at.2)

pub passed_on : (g : Slab Asker) (s : SessionState) (stations : List (Option (ℕ × ℕ))) (octets : List ℕ) (mail : Mail) (slave : ℕ) → stations ≡ stations_of s.recover s.homes s.notes →
    request_in octets ≡ Ok mail → judged g mail stations ≡ Ok slave → IsPassedOn s.homes octets slave
passed_on g s stations octets mail slave are request is =
    let p = passes g mail slave (place_from 0 mail.address stations) is in
    let home = at_home g s stations mail slave are is in
    record { mail = mail; len = home.0; request = request; home = home.1; passed = p.2; fits = home.2 }

-- what is said of a datagram whose mail may have gone to a slave
pub judged_so : (homes : List (ℕ × ℕ)) (octets : List ℕ) (slave : ℕ) → IsPassedOn homes octets slave → (queued : Option ℕ) → IfSome queued (λ n. n ≡ slave) → IsJudged homes octets queued
judged_so homes octets slave on None is = tt
judged_so homes octets slave on (Some n) is = subst (IsPassedOn homes octets) (sym is) on

-- the detail of an error
abbrev detail_of : Result ℕ ℕ → ℕ
detail_of (Ok slave) = 0
detail_of (Err detail) = detail

full_with : (slave : ℕ) (passed long full : Bool) → judged_with slave passed long full ≡ Err 7 → full ≡ true
full_with slave true false true is = refl
full_with slave true false false is = absurd (cc)
full_with slave true true full is = let e : 8 ≡ 7 = ap detail_of is in absurd (omega (arith, e))
full_with slave false long full is = let e : 2 ≡ 7 = ap detail_of is in absurd (omega (arith, e))

-- error 7 comes only where 64 requests aren't finished
full_at : (g : Slab Asker) (mail : Mail) (place : Option (ℕ × ℕ)) → judged_at g mail place ≡ Err 7 → 64 ≤ slab_len g
full_at g mail None is = let e : 5 ≡ 7 = ap detail_of is in absurd (omega (arith, e))
full_at g mail (Some place) is =
    let full = full_with place.0 (is_passed mail.kind) (nat_lt place.1 (6 + length mail.body.items)) (nat_le 64 (unfinished_at place.0 g)) is in
    let many : 64 ≤ unfinished_at place.0 g = leb-true 64 (unfinished_at place.0 g) full in
    let most : unfinished_at place.0 g ≤ length (entries g) = count_by-le-length (λ (entry : ℕ × Asker). entry.1.slave == place.0) (entries g) in
    let n = length-entries g in
    omega (arith, many, most, n)

module _ (s : SessionState) (stations : List (Option (ℕ × ℕ))) (are : stations ≡ stations_of s.recover s.homes s.notes) (heard : List HeardGram) (g : HeardGram) (octets : List ℕ) (number : ℕ) (d : Desk) where
  -- a datagram that is no request was taken
  pub taken_ignored : (d' : Desk) (fault : GatewayFault) → request_in octets ≡ Err fault → d'.requests.items ≡ d.requests.items → d'.outbox.items ≡ d.outbox.items →
      IsTaken s s number (heard ++ g ∷ []) octets d d' None
  taken_ignored d' fault request requests outbox = record {
    more = [];
    judges = is_ignored (record { fault = fault; request = request; nowhere = refl; session = refl; requests = requests; nothing = refl });
    owes = owes_none (heard ++ g ∷ []) d.outbox.items d'.outbox.items outbox;
  }

  -- one that is answered by an error
  pub taken_refused : (d' : Desk) (mail : Mail) (detail : ℕ) (r : GramOut) → IsSound heard d → request_in octets ≡ Ok mail → judged d.gateway mail stations ≡ Err detail → d'.requests.items ≡ d.requests.items → d'.outbox.items ≡ d.outbox.items ++ r ∷ [] →
      Spells (heard ++ g ∷ []) (record { gram = number; mail = error_of detail }) r → IsTaken s s number (heard ++ g ∷ []) octets d d' None
  taken_refused d' mail detail r sound request cause requests outbox spells = record {
    more = record { gram = number; mail = error_of detail } ∷ [];
    judges = is_refused (record {
      mail = mail;
      detail = detail;
      unfinished = d.gateway;
      request = request;
      cause = subst (λ (l : List (Option (ℕ × ℕ))). judged d.gateway mail l ≡ Err detail) are cause;
      seldom = λ less same. let full = full_at d.gateway mail (place_from 0 mail.address stations) (cause ∙ ap Err same) in let few = sound.few in omega (arith, full, few, less);
      nowhere = refl;
      session = refl;
      requests = requests;
      error = refl;
    });
    owes = owes_one (heard ++ g ∷ []) (record { gram = number; mail = error_of detail }) r d.outbox.items d'.outbox.items outbox spells;
  }

  -- one whose mail was passed on, or found no room
  pub taken_passed : (s' : SessionState) (gateway : Slab Asker) (d' : Desk) (mail : Mail) (key slave : ℕ) → request_in octets ≡ Ok mail → judged d.gateway mail stations ≡ Ok slave → IsFree key d.requests.items → (queued : Option ℕ) →
      Passes s s' (heard ++ g ∷ []) (record { key = key; slave = slave; gram = number; begun = false }) mail (record d { gateway = gateway }) d' queued → IsTaken s s' number (heard ++ g ∷ []) octets d d' queued
  taken_passed s' gateway d' mail key slave request place free (Some n) p = let home = at_home d.gateway s stations mail slave are place in record {
    more = [];
    judges = queues (record {
      mail = mail;
      key = key;
      slave = slave;
      unfinished = d.gateway;
      request = request;
      place = subst (λ (l : List (Option (ℕ × ℕ))). judged d.gateway mail l ≡ Ok slave) are place;
      free = free;
      home = (mail.address, home.0);
      at_home = home.1;
      fits = home.2;
      asks = p.1;
      led = p.4;
      there = ap Some p.0;
      requests = p.2;
      nothing = refl;
    });
    owes = owes_none (heard ++ g ∷ []) d.outbox.items d'.outbox.items p.3;
  }
  taken_passed s' gateway d' mail key slave request place free None p = record {
    more = record { gram = number; mail = error_of 7 } ∷ [];
    judges = too_many (record {
      mail = mail;
      key = key;
      slave = slave;
      request = request;
      full = p.0;
      asks = p.1;
      led = p.4;
      nowhere = refl;
      requests = p.2;
      error = refl;
    });
    owes = p.3;
  }
