-- A slave's server over mailbox mails.
use Rattle.std.proofs.Common.{◌≡◌, ℕ, zero, suc, ◌≤◌, List, [], ◌∷◌, ◌++◌, length, map, take, Bool, true, false, Option, Some, None, Ok, Err, refl, ap, arith, if◌then◌else◌}
use Rattle.slave_model.specs.of_link_mails.Body.{Body}
use Rattle.slave_model.specs.of_mailbox_mail.declared.mail.Mail.{Mail}
use Rattle.slave_model.specs.of_mailbox_mail.declared.mail.Kind.{Kind}
use Rattle.slave_model.specs.of_mailbox_mail.declared.mail.MailFault.TheVariants.{Short, LengthPastArea, UnknownKind}
use Rattle.slave_model.specs.of_exchange_model.Exchange.{IsLawful, given}
use Rattle.slave_model.specs.of_exchange_model.Lifted.{EachOf, ReadsBack, Spells}
use Rattle.slave_model.specs.of_exchange_model.Dialogue.{Turn, said}
use Rattle.slave_model.proofs.of_exchange_model.Lifting.{lifted_law}
use Rattle.slave_model.specs.of_exchange_model.Refusing.{gated}
use Rattle.slave_model.specs.of_protocol_models.CoeOctets as CoeOctets
use Rattle.slave_model.specs.of_protocol_models.FoeOctets as FoeOctets
use Rattle.slave_model.specs.of_protocol_models.SoeMails as SoeMails
use Rattle.slave_model.specs.of_protocol_models.SoeOctets as SoeOctets
use Rattle.slave_model.specs.of_protocol_models.EoeMails as EoeMails
use Rattle.slave_model.specs.of_protocol_models.EoeOctets as EoeOctets
use Rattle.slave_model.specs.Profile.{Protocol, Profile, IsProfile, serves}
use Rattle.slave_model.specs.Application.{Parts, ArePartsLawful}
use Rattle.slave_model.specs.Server.{Server, Seat, seat, reseated, ServiceOf, failure, heard_by, told_by, soe_quiet, eoe_quiet, refused_gives}
use Rattle.slave_model.specs.Product.{protocol_of, served, asked, refusal, serve_other, serve_by, serve, protocols}
use Rattle.slave_model.proofs.ProductLaw.{all_protocols}
use Rattle.tool_law.specs.Slave.{mail_of, body_of, slave_exchange}

-- a body that reads
abbrev pub Reads : Body → Type 0
Reads b = ReadsBack body_of mail_of b

told_reads : {X : Type 0} (write : X → Mail) (ms : List X) → EachOf Reads (map (told_by write) ms)
told_reads write [] = tt
told_reads write (m ∷ ms) = (refl, told_reads write ms)

first_reads : (n : ℕ) (bs : List Body) → EachOf Reads bs → EachOf Reads (take n bs)
first_reads zero bs all = tt
first_reads (suc n) [] all = tt
first_reads (suc n) (b ∷ bs) all = (all.0, first_reads n bs all.1)

if_reads : (b : Bool) (xs ys : List Body) → EachOf Reads xs → EachOf Reads ys → EachOf Reads (if b then xs else ys)
if_reads true xs ys p q = p
if_reads false xs ys p q = q

each_on : {M : Type 0} (P : M → Type 0) (xs ys : List M) → EachOf P xs → EachOf P ys → EachOf P (xs ++ ys)
each_on P [] ys a b = b
each_on P (x ∷ xs) ys a b = (a.0, each_on P xs ys a.1 b)

refused_reads : (i : Protocol) (b : Body) → EachOf Reads (refused_gives i b)
refused_reads Protocol.CoE b = (refl, tt)
refused_reads Protocol.FoE b = (refl, tt)
refused_reads Protocol.SoE b = if_reads (soe_quiet (heard_by SoeOctets.soe_mail_heard (SoeMails.other []) b)) [] (failure 2 ∷ []) tt (refl, tt)
refused_reads Protocol.EoE b = if_reads (eoe_quiet (heard_by EoeOctets.eoe_mail_heard (EoeMails.other []) b)) [] (failure 2 ∷ []) tt (refl, tt)

module _ {T F I : Type 0} (o : Parts T F I) (p : Profile) (al : ℕ) where
  -- all that goes between a client and a slave reads

  served_full : (i : Protocol) (v : Seat T F I i) (q : ServiceOf i) → EachOf Reads ((served o p al i).full v q)
  served_full Protocol.CoE v q = told_reads CoeOctets.coe_mail_written _
  served_full Protocol.FoE v q = told_reads FoeOctets.foe_mail_written _
  served_full Protocol.SoE v q = told_reads SoeOctets.soe_mail_written _
  served_full Protocol.EoE v q = told_reads EoeOctets.eoe_mail_written _

  asked_full : (i : Protocol) (q : ServiceOf i) → EachOf Reads (asked o p al i q)
  asked_full Protocol.CoE q = first_reads 1 _ (told_reads CoeOctets.coe_mail_written _)
  asked_full Protocol.FoE q = first_reads 1 _ (told_reads FoeOctets.foe_mail_written _)
  asked_full Protocol.SoE q = told_reads SoeOctets.soe_mail_written _
  asked_full Protocol.EoE q = told_reads EoeOctets.eoe_mail_written _

  side_full : (i : Protocol) (b : Bool) (v : Seat T F I i) (q : ServiceOf i) → EachOf Reads ((gated b (served o p al i) (refusal o p al i)).full v q)
  side_full i true v q = served_full i v q
  side_full i false v q = asked_full i q

  served_gives : (i : Protocol) (v : Seat T F I i) (b : Body) → EachOf Reads ((served o p al i).serve v b).1
  served_gives Protocol.CoE v b = told_reads CoeOctets.coe_mail_written _
  served_gives Protocol.FoE v b = told_reads FoeOctets.foe_mail_written _
  served_gives Protocol.SoE v b = told_reads SoeOctets.soe_mail_written _
  served_gives Protocol.EoE v b = told_reads EoeOctets.eoe_mail_written _

  side_gives : (i : Protocol) (g : Bool) (v : Seat T F I i) (b : Body) → EachOf Reads ((gated g (served o p al i) (refusal o p al i)).serve v b).1
  side_gives i true v b = served_gives i v b
  side_gives i false v b = refused_reads i b

  other_gives : (j : Server T F I) (kind : Kind) → EachOf Reads (serve_other o p al j kind).1
  other_gives j Kind.Error = tt
  other_gives j Kind.AoE = (refl, tt)
  other_gives j Kind.EoE = (refl, tt)
  other_gives j Kind.CoE = (refl, tt)
  other_gives j Kind.FoE = (refl, tt)
  other_gives j Kind.SoE = (refl, tt)
  other_gives j Kind.VoE = (refl, tt)

  by_gives : (j : Server T F I) (b : Body) (kind : Kind) (found : Option Protocol) → EachOf Reads (serve_by o p al j b kind found).1
  by_gives j b kind (Some i) = side_gives i (serves p al i) (seat i j) b
  by_gives j b kind None = other_gives j kind

  slave_gives : (j : Server T F I) (b : Body) → EachOf Reads (serve o p al j b).1
  slave_gives j (Ok m) = by_gives j (Ok m) m.kind (protocol_of m.kind)
  slave_gives j (Err Short) = (refl, tt)
  slave_gives j (Err LengthPastArea) = (refl, tt)
  slave_gives j (Err UnknownKind) = (refl, tt)

  given_reads : (j : Server T F I) (bs : List Body) → EachOf Reads (given (serve o p al) j bs)
  given_reads j [] = tt
  given_reads j (b ∷ bs) = each_on Reads (serve o p al j b).1 _ (slave_gives j b) (given_reads (serve o p al j b).0 bs)

  pub slave_spells : Spells (protocols o p al) body_of mail_of
  slave_spells = record {
    told = λ j q ready valid. side_full q.0 (serves p al q.0) (seat q.0 j) q.1;
    answered = λ j q ready valid. given_reads j ((protocols o p al).full j q);
  }

  pub slave_law : ArePartsLawful o → IsProfile p → IsLawful (slave_exchange o p al)
  slave_law law is = lifted_law (protocols o p al) body_of mail_of (all_protocols o law p is al) slave_spells

  -- a slave doesn't look at addresses and counters

  module _ (m : Mail) (address counter : ℕ) where
    abbrev other : Mail
    other = record m { address = address; counter = counter }

    side_bare : (i : Protocol) (g : Bool) (v : Seat T F I i) → (gated g (served o p al i) (refusal o p al i)).serve v (Ok other) ≡ (gated g (served o p al i) (refusal o p al i)).serve v (Ok m)
    side_bare Protocol.CoE true v = refl
    side_bare Protocol.FoE true v = refl
    side_bare Protocol.SoE true v = refl
    side_bare Protocol.EoE true v = refl
    side_bare Protocol.CoE false v = refl
    side_bare Protocol.FoE false v = refl
    side_bare Protocol.SoE false v = refl
    side_bare Protocol.EoE false v = refl

    by_bare : (j : Server T F I) (kind : Kind) (found : Option Protocol) → serve_by o p al j (Ok other) kind found ≡ serve_by o p al j (Ok m) kind found
    by_bare j kind None = refl
    by_bare j kind (Some i) = ap (λ (z : Seat T F I i × List Body). (reseated i j z.0, z.1)) (side_bare i (serves p al i) (seat i j))

  pub slave_bare : (j : Server T F I) (m : Mail) (address counter : ℕ) → (slave_exchange o p al).serve j (record m { address = address; counter = counter }) ≡ (slave_exchange o p al).serve j m
  slave_bare j m address counter = ap (λ (z : Server T F I × List Body). (z.0, map mail_of z.1)) (by_bare m address counter j m.kind (protocol_of m.kind))

-- the first of a client's mails goes first

pub first_said : {X M : Type 0} (write : X → M) (decide : X → List X → Option Turn) → ((m : X) → decide m [] ≡ None) → (ms : List X) → map write (said decide 1 ms []) ≡ take 1 (map write ms)
first_said write decide waits [] = refl
first_said write decide waits (m ∷ ms) = rw (waits m) refl

pub first_one : {M : Type 0} (ms : List M) → length (take 1 ms) ≤ 1
first_one [] = omega arith
first_one (m ∷ ms) = omega arith
