-- Which mails tell that others follow, in their octets: an information and a message of SoE with the incomplete bit, and no other.
use Rattle.std.proofs.Common.{◌≡◌, ℕ, ◌/◌, ◌%◌, ◌≤◌, ◌==◌, nat_lt, Bool, true, false, List, [], ◌∷◌, ◌++◌, length, Result, Ok, Err, refl, arith, le-ltb, if◌then◌else◌}
use Rattle.run_work.specs.of_ec_fields.Fields.{number_at}
use Rattle.served_places.specs.of_coe_codec.Fields.{service_in, specifier_in, flag_in}
use Rattle.served_places.specs.of_coe_codec.Reading.{segment_fits, first_fits, upload_answer_read, answer_read, download_read, request_read, coe_read}
use Rattle.served_places.specs.of_coe_codec.Writing.{coe_text}
use Rattle.run_work.specs.of_protocol_models.CoeClient.{is_incomplete}
use Rattle.run_work.specs.of_protocol_models.CoeMails.{Coe, CoeFault, Information, InformationError, is_emission}
use Rattle.run_work.specs.of_protocol_models.CoeOctets.{heard}
use Rattle.run_work.specs.of_protocol_models.CoeServer.{answer_opcode}
use Rattle.run_work.specs.of_protocol_models.Tables.{Ask, list, object, entry}

-- what reads as a reply that no other follows
abbrev pub Ends : List ℕ → Result Coe CoeFault → Type 0
Ends body r = (is_incomplete (heard body r) ≡ false) × (is_emission (heard body r) ≡ false)

either : (body : List ℕ) (b : Bool) (r s : Result Coe CoeFault) → Ends body r → Ends body s → Ends body (if b then r else s)
either body true r s p q = p
either body false r s p q = q

without : (body : List ℕ) (b : Bool) (r s : Result Coe CoeFault) → b ≡ false → Ends body s → Ends body (if b then r else s)
without body true r s e q = absurd (cc)
without body false r s e q = q

module _ (body : List ℕ) where
  downloads : Ends body (download_read body)
  downloads = either body (flag_in body 2) _ _ (refl, refl) (either body (flag_in body 1) _ _ (either body (first_fits body) _ _ (refl, refl) (refl, refl)) (refl, refl))

  upload_answers : Ends body (upload_answer_read body)
  upload_answers = either body (flag_in body 1) _ _ (either body (flag_in body 2) _ _ (refl, refl) (either body (first_fits body) _ _ (refl, refl) (refl, refl))) (refl, refl)

  requests : Ends body (request_read body)
  requests =
      either body (specifier_in body == 0) _ _ (either body (segment_fits body) _ _ (refl, refl) (refl, refl))
      (either body (specifier_in body == 1) _ _ downloads
      (either body (specifier_in body == 2) _ _ (refl, refl)
      (either body (specifier_in body == 3) _ _ (refl, refl) (either body (specifier_in body == 4) _ _ (refl, refl) (refl, refl)))))

  answers : Ends body (answer_read body)
  answers =
      either body (specifier_in body == 0) _ _ (either body (segment_fits body) _ _ (refl, refl) (refl, refl))
      (either body (specifier_in body == 1) _ _ (refl, refl)
      (either body (specifier_in body == 2) _ _ upload_answers
      (either body (specifier_in body == 3) _ _ (refl, refl) (either body (specifier_in body == 4) _ _ (refl, refl) (refl, refl)))))

  -- a body of another service than information and emergency
  pub other_service : (service_in body == 8) ≡ false → (service_in body == 1) ≡ false → Ends body (coe_read body)
  other_service e f =
      either body (nat_lt (length body) 2) _ _ (refl, refl)
      (without body (service_in body == 1) _ _ f
      (either body (service_in body == 2) _ _ (either body (nat_lt (length body) 10) _ _ (refl, refl) requests)
      (either body (service_in body == 3) _ _ (either body (nat_lt (length body) 10) _ _ (refl, refl) answers)
      (without body (service_in body == 8) _ _ e (refl, refl)))))

-- an information error
pub error_ends : (code : ℕ) → Ends (coe_text (InformationError code)) (coe_read (coe_text (InformationError code)))
error_ends code = (refl, refl)

-- what reads as a reply with this bit
abbrev Reads : List ℕ → Bool → Result Coe CoeFault → Type 0
Reads body incomplete r = (is_incomplete (heard body r) ≡ incomplete) × (is_emission (heard body r) ≡ false)

-- a part of an information does
read_long : (body : List ℕ) (short less : Bool) (opcode left : ℕ) (incomplete : Bool) (bytes : List ℕ) → short ≡ false → less ≡ false →
    Reads body incomplete (if short then Err CoeFault.Short else if less then Err CoeFault.Short else Ok (Information opcode incomplete left (record { items = bytes })))
read_long body true less opcode left incomplete bytes e f = absurd (cc)
read_long body false true opcode left incomplete bytes e f = absurd (cc)
read_long body false false opcode left incomplete bytes e f = (refl, refl)

module _ (left : ℕ) (bytes : List ℕ) where
  abbrev body : ℕ → List ℕ
  body head = 0 ∷ 128 ∷ head ∷ 0 ∷ left % 256 ∷ left / 256 % 256 ∷ (bytes ++ [])

  long : (head n : ℕ) → n ≤ 6 → nat_lt (length (body head)) n ≡ false
  long head n few = le-ltb _ _ (omega (arith, few))

  read_part : (head opcode : ℕ) (incomplete : Bool) → Reads (body head) incomplete (
      if nat_lt (length (body head)) 2 then Err CoeFault.Short
      else if nat_lt (length (body head)) 6 then Err CoeFault.Short
      else Ok (Information opcode incomplete (number_at 2 (body head) 4) (record { items = bytes ++ [] })))
  read_part head opcode incomplete = read_long (body head) _ _ opcode (number_at 2 (body head) 4) incomplete (bytes ++ []) (long head 2 (omega arith)) (long head 6 (omega arith))

-- so it tells by its bit whether others follow
pub part_told : (a : Ask) (incomplete : Bool) (left : ℕ) (bytes : List ℕ) → let body = coe_text (Information (answer_opcode a) incomplete left (record { items = bytes })) in Reads body incomplete (coe_read body)
part_told (list kind) true left bytes = read_part left bytes 130 2 true
part_told (list kind) false left bytes = read_part left bytes 2 2 false
part_told (object index) true left bytes = read_part left bytes 132 4 true
part_told (object index) false left bytes = read_part left bytes 4 4 false
part_told (entry index sub info) true left bytes = read_part left bytes 134 6 true
part_told (entry index sub info) false left bytes = read_part left bytes 6 6 false
