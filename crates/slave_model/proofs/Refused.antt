-- Each protocol is refused as the laws ask: its client sends up to the first mail that waits for an answer, hears the mailbox error, and stops.
use Rattle.std.proofs.Common.{◌≡◌, ℕ, zero, suc, ◌+◌, ◌-◌, ◌*◌, ◌/◌, ◌<◌, ◌≤◌, not, nat_le, nat_lt, Bool, true, false, List, [], ◌∷◌, ◌++◌, map, length, take, drop, Some, None, Result, Err, refl, sym, ap, ◌∙◌, subst, arith, leb-true, lt-ltb, le-ltb, length-drop}
use Rattle.std.specs.Prelude.{if◌then◌else◌}
use Rattle.std.proofs.lemmas.Bool.{leb-false}
use Rattle.link_mails.specs.Body.{Body}
use Rattle.protocol_models.specs.of_eoe.Cutting.{fragment_at, fragments_from}
use Rattle.protocol_models.specs.of_exchange_model.Dialogue.{said}
use Rattle.protocol_models.specs.of_exchange_model.Lifted.{EachOf, ReadsBack}
use Rattle.protocol_models.specs.of_exchange_model.Refusing.{Refusal, IsAsked, IsRefusal}
use Rattle.protocol_models.specs.CoeMails as CoeMails
use Rattle.protocol_models.specs.CoeMeaning as CoeMeaning
use Rattle.protocol_models.specs.CoeClient as CoeClient
use Rattle.protocol_models.specs.CoeOctets as CoeOctets
use Rattle.protocol_models.specs.FoeMeaning as FoeMeaning
use Rattle.protocol_models.specs.FoeClient as FoeClient
use Rattle.protocol_models.specs.FoeOctets as FoeOctets
use Rattle.protocol_models.specs.SoeMails as SoeMails
use Rattle.protocol_models.specs.Elements as Elements
use Rattle.protocol_models.specs.Elements.{Target}
use Rattle.protocol_models.proofs.SoeSpelled.{soe_spells}
use Rattle.protocol_models.specs.Network as Network
use Rattle.protocol_models.proofs.EoeSpelled.{eoe_spells}
use Rattle.protocol_models.specs.SoeClient as SoeClient
use Rattle.protocol_models.specs.SoeOctets as SoeOctets
use Rattle.protocol_models.specs.EoeMails as EoeMails
use Rattle.protocol_models.specs.EoeClient as EoeClient
use Rattle.protocol_models.specs.EoeOctets as EoeOctets
use Rattle.slave_model.specs.Profile.{Protocol, Profile, IsProfile, areas_of}
use Rattle.slave_model.specs.Application.{Parts, ArePartsLawful}
use Rattle.slave_model.specs.Server.{Seat, one_more, failure, told_by, soe_quiet, eoe_counts, eoe_quiet}
use Rattle.slave_model.specs.Product.{served, asked, refusal}
use Rattle.slave_model.proofs.Stations.{left_of}

append_nil : {X : Type 0} (l : List X) → l ++ [] ≡ l
append_nil [] = refl
append_nil (x ∷ l) = ap (λ k. x ∷ k) (append_nil l)

-- what a CoE client has at first
record Begins {X : Type 0} (ms ns : List X) : Type 0 where
  first : X
  more : List X
  later : List X
  now : ms ≡ first ∷ more
  then_ : ns ≡ first ∷ later

coe_by : (b : Bool) (x y : CoeMails.CoeMail) (xs ys : List CoeMails.CoeMail) → Begins (if b then x ∷ xs else y ∷ ys) (if b then x ∷ xs else y ∷ ys)
coe_by true x y xs ys = record { first = x; more = xs; later = xs; now = refl; then_ = refl }
coe_by false x y xs ys = record { first = y; more = ys; later = ys; now = refl; then_ = refl }

coe_begins : (out : ℕ) (q : CoeMeaning.Service) → Begins (CoeClient.mails_of out q 0) (CoeClient.mails_of out q 1)
coe_begins out (CoeMeaning.download t bytes) = coe_by _ _ _ _ _
coe_begins out (CoeMeaning.upload t) = record { first = _; more = _; later = _; now = refl; then_ = refl }
coe_begins out (CoeMeaning.information a) = record { first = _; more = _; later = _; now = refl; then_ = refl }

foe_begins : (out : ℕ) (q : FoeMeaning.Service) → Begins (FoeClient.mails_of out q 0) (FoeClient.mails_of out q 1)
foe_begins out (FoeMeaning.read name pass) = record { first = _; more = _; later = _; now = refl; then_ = refl }
foe_begins out (FoeMeaning.write name pass bytes) = record { first = _; more = _; later = _; now = refl; then_ = refl }

module _ {T F I : Type 0} (o : Parts T F I) (law : ArePartsLawful o) (p : Profile) (is : IsProfile p) (al : ℕ) where
  counted_app : (i : Protocol) (v : Seat T F I i) → (served o p al i).app (one_more T F I i v) ≡ (served o p al i).app v
  counted_app Protocol.CoE v = refl
  counted_app Protocol.FoE v = refl
  counted_app Protocol.SoE v = refl
  counted_app Protocol.EoE v = refl

  counted_handled : (i : Protocol) (v : Seat T F I i) → (served o p al i).handled (one_more T F I i v) ≡ suc ((served o p al i).handled v)
  counted_handled Protocol.CoE v = refl
  counted_handled Protocol.FoE v = refl
  counted_handled Protocol.SoE v = refl
  counted_handled Protocol.EoE v = refl

  counted_ready : (i : Protocol) (v : Seat T F I i) → (served o p al i).ready v ≡ true → (served o p al i).ready (one_more T F I i v) ≡ true
  counted_ready Protocol.CoE v e = e
  counted_ready Protocol.FoE v e = e
  counted_ready Protocol.SoE v e = e
  counted_ready Protocol.EoE v e = e

  plain_failure : (i : Protocol) → (served o p al i).speech.emission (failure 2) ≡ false
  plain_failure Protocol.CoE = refl
  plain_failure Protocol.FoE = refl
  plain_failure Protocol.SoE = refl
  plain_failure Protocol.EoE = refl

  -- CoE
  coe_asked : (q : CoeMeaning.Service) → asked o p al Protocol.CoE q ≡ told_by CoeOctets.coe_mail_written (coe_begins p.out q).first ∷ []
  coe_asked q = ap (λ ms. take 1 (map (told_by CoeOctets.coe_mail_written) ms)) (coe_begins p.out q).now

  pub coe_refusal : IsRefusal (served o p al Protocol.CoE) (refusal o p al Protocol.CoE)
  coe_refusal = record {
    app = counted_app Protocol.CoE;
    handled = counted_handled Protocol.CoE;
    ready = counted_ready Protocol.CoE;
    plain = plain_failure Protocol.CoE;
    asked = λ q valid. record { front = []; last = told_by CoeOctets.coe_mail_written (coe_begins p.out q).first; mails = coe_asked q; quiet = tt; counts = refl; answer = refl };
    ends = λ q valid answers. coe_ends q;
    begins = λ q valid. ([], append_nil _ ∙ ap (λ ms. map (told_by CoeOctets.coe_mail_written) (said CoeClient.decide 1 ms [])) (coe_begins p.out q).now ∙ sym (coe_asked q));
    sends = λ q valid answers. ap (λ ms. map (told_by CoeOctets.coe_mail_written) (said CoeClient.decide 2 ms (CoeMails.failed 2 ∷ []))) (coe_begins p.out q).then_ ∙ sym (coe_asked q);
    posts = λ q valid posts. absurd (cc);
  }
    where
      coe_ends : (q : CoeMeaning.Service) → (served o p al Protocol.CoE).speech.ends q (failure 2 ∷ []) ≡ Some (refusal o p al Protocol.CoE).reply
      coe_ends (CoeMeaning.download t bytes) = refl
      coe_ends (CoeMeaning.upload t) = refl
      coe_ends (CoeMeaning.information a) = refl

  -- FoE
  foe_asked : (q : FoeMeaning.Service) → asked o p al Protocol.FoE q ≡ told_by FoeOctets.foe_mail_written (foe_begins p.out q).first ∷ []
  foe_asked q = ap (λ ms. take 1 (map (told_by FoeOctets.foe_mail_written) ms)) (foe_begins p.out q).now

  pub foe_refusal : IsRefusal (served o p al Protocol.FoE) (refusal o p al Protocol.FoE)
  foe_refusal = record {
    app = counted_app Protocol.FoE;
    handled = counted_handled Protocol.FoE;
    ready = counted_ready Protocol.FoE;
    plain = plain_failure Protocol.FoE;
    asked = λ q valid. record { front = []; last = told_by FoeOctets.foe_mail_written (foe_begins p.out q).first; mails = foe_asked q; quiet = tt; counts = refl; answer = refl };
    ends = λ q valid answers. foe_ends q;
    begins = λ q valid. ([], append_nil _ ∙ foe_first q);
    sends = λ q valid answers. foe_second q;
    posts = λ q valid posts. absurd (cc);
  }
    where
      foe_ends : (q : FoeMeaning.Service) → (served o p al Protocol.FoE).speech.ends q (failure 2 ∷ []) ≡ Some (refusal o p al Protocol.FoE).reply
      foe_ends (FoeMeaning.read name pass) = refl
      foe_ends (FoeMeaning.write name pass bytes) = refl

      foe_first : (q : FoeMeaning.Service) → (served o p al Protocol.FoE).speech.planned q [] ≡ asked o p al Protocol.FoE q
      foe_first (FoeMeaning.read name pass) = refl
      foe_first (FoeMeaning.write name pass bytes) = refl

      foe_second : (q : FoeMeaning.Service) → (served o p al Protocol.FoE).speech.planned q (failure 2 ∷ []) ≡ asked o p al Protocol.FoE q
      foe_second (FoeMeaning.read name pass) = refl
      foe_second (FoeMeaning.write name pass bytes) = refl

-- more mails before those of a client
asked_more : {V Q R : Type 0} (r : Refusal V Body Q R) (handed : Bool) (m : Body) (ms : List Body) → (r.counts m ≡ false) × (r.gives m ≡ []) → IsAsked r handed ms → IsAsked r handed (m ∷ ms)
asked_more r handed m ms quiet a = record { front = m ∷ a.front; last = a.last; mails = ap (λ l. m ∷ l) a.mails; quiet = (quiet, a.quiet); counts = a.counts; answer = a.answer }

asked_one : {V Q R : Type 0} (r : Refusal V Body Q R) (handed : Bool) (m : Body) → r.counts m ≡ true → r.gives m ≡ (if handed then [] else r.refusal ∷ []) → IsAsked r handed (m ∷ [])
asked_one r handed m counts gives = record { front = []; last = m; mails = refl; quiet = tt; counts = counts; answer = gives }

module _ {T F I : Type 0} (o : Parts T F I) (law : ArePartsLawful o) (p : Profile) (is : IsProfile p) (al : ℕ) where
  soe_fragments : (fuel opcode part : ℕ) (t : Target) (bytes : List ℕ) → length bytes < fuel → 0 < part → EachOf (ReadsBack SoeOctets.soe_mail_heard SoeOctets.soe_mail_written) (SoeMails.fragments fuel opcode t part bytes) →
      IsAsked (refusal o p al Protocol.SoE) false (map (told_by SoeOctets.soe_mail_written) (SoeMails.fragments fuel opcode t part bytes))
  soe_fragments zero opcode part t bytes few some all = absurd (omega arith)
  soe_fragments (suc fuel) opcode part t bytes few some all = by (nat_le (length bytes) part) refl
      (λ e rest. soe_fragments fuel opcode part t (drop part bytes) (let longer = leb-false (length bytes) part e in omega (arith, length-drop part bytes, longer)) some rest) all
    where
      by : (b : Bool) → nat_le (length bytes) part ≡ b →
          (nat_le (length bytes) part ≡ false → EachOf (ReadsBack SoeOctets.soe_mail_heard SoeOctets.soe_mail_written) (SoeMails.fragments fuel opcode t part (drop part bytes)) →
          IsAsked (refusal o p al Protocol.SoE) false (map (told_by SoeOctets.soe_mail_written) (SoeMails.fragments fuel opcode t part (drop part bytes)))) →
          EachOf (ReadsBack SoeOctets.soe_mail_heard SoeOctets.soe_mail_written) (if b then SoeMails.mail (SoeMails.message opcode false t t.idn bytes) ∷ [] else SoeMails.mail (SoeMails.message opcode true t (SoeMails.parts_of part (length bytes - part)) (take part bytes)) ∷ SoeMails.fragments fuel opcode t part (drop part bytes)) →
          IsAsked (refusal o p al Protocol.SoE) false (map (told_by SoeOctets.soe_mail_written) (if b then SoeMails.mail (SoeMails.message opcode false t t.idn bytes) ∷ [] else SoeMails.mail (SoeMails.message opcode true t (SoeMails.parts_of part (length bytes - part)) (take part bytes)) ∷ SoeMails.fragments fuel opcode t part (drop part bytes)))
      by true e again all = asked_one (refusal o p al Protocol.SoE) false _ (ap (λ m. not (soe_quiet m)) all.0) (ap (λ m. if soe_quiet m then [] else failure 2 ∷ []) all.0)
      by false e again all = asked_more (refusal o p al Protocol.SoE) false _ _ (ap (λ m. not (soe_quiet m)) all.0, ap (λ m. if soe_quiet m then [] else failure 2 ∷ []) all.0)
          (again e all.1)

  pub soe_asked : (q : SoeClient.Service) → EachOf (ReadsBack SoeOctets.soe_mail_heard SoeOctets.soe_mail_written) (SoeClient.mails_of p.out q) → IsAsked (refusal o p al Protocol.SoE) false (asked o p al Protocol.SoE q)
  soe_asked (SoeClient.read t) all = asked_one (refusal o p al Protocol.SoE) false _ (ap (λ m. not (soe_quiet m)) all.0) (ap (λ m. if soe_quiet m then [] else failure 2 ∷ []) all.0)
  soe_asked (SoeClient.write t bytes) all = soe_fragments (suc (length bytes)) 3 (p.out - 10) t bytes (omega arith) (let least = is.out_least in omega arith) all

  soe_ends : (q : SoeClient.Service) → (served o p al Protocol.SoE).speech.ends q (failure 2 ∷ []) ≡ Some (refusal o p al Protocol.SoE).reply
  soe_ends (SoeClient.read t) = refl
  soe_ends (SoeClient.write t bytes) = refl

  pub soe_refusal : ((q : SoeClient.Service) → (served o p al Protocol.SoE).speech.valid q ≡ true → EachOf (ReadsBack SoeOctets.soe_mail_heard SoeOctets.soe_mail_written) (SoeClient.mails_of p.out q)) →
      IsRefusal (served o p al Protocol.SoE) (refusal o p al Protocol.SoE)
  soe_refusal told = record {
    app = counted_app o law p is al Protocol.SoE;
    handled = counted_handled o law p is al Protocol.SoE;
    ready = counted_ready o law p is al Protocol.SoE;
    plain = plain_failure o law p is al Protocol.SoE;
    asked = λ q valid. soe_asked q (told q valid);
    ends = λ q valid answers. soe_ends q;
    begins = λ q valid. ([], append_nil _);
    sends = λ q valid answers. refl;
    posts = λ q valid posts. absurd (cc);
  }

  eoe_fragments : (most : ℕ) (octets : List ℕ) (size frame k at : ℕ) → at < length octets → length octets ≤ at + most → 0 < size →
      EachOf (ReadsBack EoeOctets.eoe_mail_heard EoeOctets.eoe_mail_written) (map EoeMails.part (fragments_from octets size frame most k at)) →
      IsAsked (refusal o p al Protocol.EoE) true (map (told_by EoeOctets.eoe_mail_written) (map EoeMails.part (fragments_from octets size frame most k at)))
  eoe_fragments zero octets size frame k at inside few some all = absurd (omega arith)
  eoe_fragments (suc most) octets size frame k at inside few some all = by (nat_lt at (length octets)) (lt-ltb at (length octets) inside) (nat_le (length octets) (at + size)) refl
      (λ e rest. eoe_fragments most octets size frame (k + 1) (at + size) (let longer = leb-false (length octets) (at + size) e in omega (arith, longer)) (omega arith) some rest) all
    where
      none_left : (n : ℕ) → length octets ≤ at + size → fragments_from octets size frame n (k + 1) (at + size) ≡ []
      none_left zero past = refl
      none_left (suc n) past = ap (λ (b : Bool). if b then fragment_at octets size frame (k + 1) (at + size) ∷ fragments_from octets size frame n (k + 1 + 1) (at + size + size) else []) (le-ltb _ _ past)

      by : (b : Bool) → b ≡ true → (last : Bool) → nat_le (length octets) (at + size) ≡ last →
          (nat_le (length octets) (at + size) ≡ false → EachOf (ReadsBack EoeOctets.eoe_mail_heard EoeOctets.eoe_mail_written) (map EoeMails.part (fragments_from octets size frame most (k + 1) (at + size))) →
          IsAsked (refusal o p al Protocol.EoE) true (map (told_by EoeOctets.eoe_mail_written) (map EoeMails.part (fragments_from octets size frame most (k + 1) (at + size))))) →
          EachOf (ReadsBack EoeOctets.eoe_mail_heard EoeOctets.eoe_mail_written) (map EoeMails.part (if b then fragment_at octets size frame k at ∷ fragments_from octets size frame most (k + 1) (at + size) else [])) →
          IsAsked (refusal o p al Protocol.EoE) true (map (told_by EoeOctets.eoe_mail_written) (map EoeMails.part (if b then fragment_at octets size frame k at ∷ fragments_from octets size frame most (k + 1) (at + size) else [])))
      by false is_there last e again all = absurd (cc)
      by true is_there true e again all =
          subst (λ l. IsAsked (refusal o p al Protocol.EoE) true (map (told_by EoeOctets.eoe_mail_written) (map EoeMails.part (fragment_at octets size frame k at ∷ l)))) (sym (none_left most (leb-true _ _ e)))
          (asked_one (refusal o p al Protocol.EoE) true _ (ap eoe_counts all.0 ∙ e) (ap (λ m. if eoe_quiet m then [] else failure 2 ∷ []) all.0))
      by true is_there false e again all = asked_more (refusal o p al Protocol.EoE) true _ _ (ap eoe_counts all.0 ∙ e, ap (λ m. if eoe_quiet m then [] else failure 2 ∷ []) all.0)
          (again e all.1)

  pub eoe_asked : (q : EoeClient.Service) → EoeClient.is_service q ≡ true → EachOf (ReadsBack EoeOctets.eoe_mail_heard EoeOctets.eoe_mail_written) (EoeClient.mails_of p.out q) →
      IsAsked (refusal o p al Protocol.EoE) (EoeClient.is_handed q) (asked o p al Protocol.EoE q)
  eoe_asked (EoeClient.packet octets frame) valid all =
      let least : 14 ≤ length octets = leb-true _ _ (left_of _ _ (left_of _ _ valid)) in
      let wide = is.out_least in
      eoe_fragments (length octets) octets (32 * ((p.out - 10) / 32)) frame 0 0 (omega arith) (omega arith) (omega arith) all
  eoe_asked (EoeClient.set_ip block) valid all = asked_one (refusal o p al Protocol.EoE) false _ (ap eoe_counts all.0) (ap (λ m. if eoe_quiet m then [] else failure 2 ∷ []) all.0)
  eoe_asked EoeClient.get_ip valid all = asked_one (refusal o p al Protocol.EoE) false _ (ap eoe_counts all.0) (ap (λ m. if eoe_quiet m then [] else failure 2 ∷ []) all.0)

  eoe_ends : (q : EoeClient.Service) → EoeClient.is_handed q ≡ false → (served o p al Protocol.EoE).speech.ends q (failure 2 ∷ []) ≡ Some (refusal o p al Protocol.EoE).reply
  eoe_ends (EoeClient.packet octets frame) e = absurd (cc)
  eoe_ends (EoeClient.set_ip block) e = refl
  eoe_ends EoeClient.get_ip e = refl

  pub eoe_refusal : ((q : EoeClient.Service) → EoeClient.is_service q ≡ true → EachOf (ReadsBack EoeOctets.eoe_mail_heard EoeOctets.eoe_mail_written) (EoeClient.mails_of p.out q)) →
      IsRefusal (served o p al Protocol.EoE) (refusal o p al Protocol.EoE)
  eoe_refusal told = record {
    app = counted_app o law p is al Protocol.EoE;
    handled = counted_handled o law p is al Protocol.EoE;
    ready = counted_ready o law p is al Protocol.EoE;
    plain = plain_failure o law p is al Protocol.EoE;
    asked = λ q valid. eoe_asked q valid (told q valid);
    ends = λ q valid answers. eoe_ends q answers;
    begins = λ q valid. ([], append_nil _);
    sends = λ q valid answers. refl;
    posts = λ q valid posts. refl;
  }

-- The mails of a client are read back, whatever the server is: by the laws of a server over nothing.
no_elements : Elements.Elements (Unit {0})
no_elements = record { valid = λ s. true; read = λ s t. Err 0; write = λ s t bytes. Err 0 }

no_code : {X : Type 0} (r : Result X ℕ) (code : ℕ) → r ≡ Err 0 → r ≡ Err code → code < 65536
no_code r code e is = let same : 0 ≡ code = cc in omega (arith, same)

elements_none : Elements.AreLawful no_elements
unfolding no_elements
elements_none = record {
  short = λ s t bytes e is. absurd (cc);
  read_code = λ s t code e is. no_code _ code refl is;
  write_code = λ s t bytes code e is. no_code _ code refl is;
  stays = λ s changed t bytes e is. absurd (cc);
}

no_network : Network.Network (Unit {0})
no_network = record { valid = λ s. true; packet = λ s octets. (s, None); set_ip = λ s block. None; block = λ s. [] }

network_none : Network.IsSound no_network
unfolding no_network
network_none = record { packet = λ s octets e. refl; set_ip = λ s changed block e is. absurd (cc) }

network_spelled_none : Network.IsSpelled no_network
unfolding no_network
network_spelled_none = record { sent = λ s octets sent e is. absurd (cc) }

pub soe_told_of : (p : Profile) → IsProfile p → (q : SoeClient.Service) → SoeClient.is_service q ≡ true → EachOf (ReadsBack SoeOctets.soe_mail_heard SoeOctets.soe_mail_written) (SoeClient.mails_of p.out q)
unfolding no_elements
soe_told_of p is q valid = (soe_spells no_elements elements_none (areas_of p)
    (record { out_least = is.out_least; out_most = is.out_most; back_least = is.back_least; back_most = is.back_most })).told (record { app = tt; handled = 0; join = None }) q refl valid

pub eoe_told_of : (p : Profile) → IsProfile p → (q : EoeClient.Service) → EoeClient.is_service q ≡ true → EachOf (ReadsBack EoeOctets.eoe_mail_heard EoeOctets.eoe_mail_written) (EoeClient.mails_of p.out q)
unfolding no_network
eoe_told_of p is q valid = (eoe_spells no_network network_none network_spelled_none (areas_of p)
    (record { out_least = is.out_least; out_most = is.out_most; back_least = is.back_least; back_most = is.back_most })).told (record { station = record { app = tt; frame = 0 }; handled = 0; unfinished = None }) q refl valid
