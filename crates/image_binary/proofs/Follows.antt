-- The listing while its image is read: what the bytes taken and any others give is what those others give behind these
-- statements.
use Rattle.std.proofs.Common.{◌≡◌, ℕ, suc, ◌+◌, ◌-◌, ◌<◌, ◌≤◌, Bool, true, false, List, [], ◌∷◌, ◌++◌, length, take, Option, Some, None, Ok, Err, refl, sym, ap, subst, ◌∙◌, append_assoc, append-nil, arith, inl, inr, length-append}
use Rattle.std.specs.Prelude.{nat_lt}
use Rattle.std.specs.Io.KnownBytes.{Keeps, Consumes, IsAtEnd}
use Rattle.std.proofs.KnownBytes.{Consumes-nil, Consumes-trans, Consumes-kept}
use Rattle.std.proofs.lemmas.Bool.{lt-ltb, le-ltb}
use Rattle.std.proofs.lemmas.List.{take_at, take_all}
use Rattle.std.proofs.lemmas.List.Elements.{All-append, All-cons, All-nil}
use Rattle.std.proofs.Math.Seq.{take-append-add}
use Rattle.coy_io.specs.Limits.{input_limit}
use Rattle.object_store.specs.declared.sizes.Sizes.{Sizes}
use Rattle.listing_read.specs.Faults.{◌>>=◌}
use Rattle.listing_read.specs.Statement.{ListingValue}
use Rattle.listing_read.specs.declared.statement.Statement.{Statement}
use Rattle.image_binary.specs.declared.fault.ImageFault.{ImageFault}
use Rattle.image_binary.specs.declared.fault.ImageFault.TheVariants.{Refused, ReadFault, TooLong, OutOfMemory}
use Rattle.image_binary.specs.declared.fault.ImageWord.{ImageWord}
use Rattle.image_binary.specs.declared.fault.ImageWord.TheVariants.{Cut, Trailing}
use Rattle.image_binary.specs.declared.head.Head.{Head}
use Rattle.image_binary.specs.declared.stop.Stop.{Stop}
use Rattle.image_binary.specs.declared.stop.Stop.TheVariants.{Short, Wrong}
use Rattle.image_binary.specs.Fields.{Read}
use Rattle.image_binary.specs.Statements.{statement_of}
use Rattle.image_binary.specs.Image.{head_of, statements_of, listing_of, ended, concluded, unpacked, IsOpen}
use Rattle.image_binary.specs.Laws.{AreBytes}
use Rattle.image_binary.specs.Unpacked.{Answers, StandsAtStatement, Takes, Unpacks, with_front}
use Rattle.image_binary.specs.Reader.{Reader, new_reader, StepsTo, IsStop, StopsAt, IsEnding}

-- all bytes taken so far, and what they give with any others behind them
pub record Follows (old now : Option (List ℕ)) (reader : Reader) (sizes : Sizes) (listed : List Statement) (left : ℕ) : Type 0 where
  pub got : List ℕ
  pub bytes : AreBytes got
  pub taken : Consumes old now got
  pub few : length got ≤ input_limit
  pub total : reader.at + length reader.held ≡ length got
  pub reads : (more : List ℕ) → listing_of (got ++ more) ≡ with_front sizes listed (statements_of sizes left (reader.held ++ more))

-- ---- step by step

first_front : (sizes : Sizes) (r : Read (List Statement)) → (r >>= λ ss. Ok (record { sizes = sizes; statements = ss.0 }, ss.1)) ≡ with_front sizes [] r
first_front sizes (Ok x) = refl
first_front sizes (Err stop) = refl

pub follows_start : (old now : Option (List ℕ)) (reader : Reader) (head : Head) → StepsTo head_of new_reader reader old now head → Follows old now reader head.sizes [] head.count
unfolding listing_of
follows_start old now reader head step = record {
  got = step.got;
  bytes = step.bytes;
  taken = step.taken;
  few = (let few = step.few in omega arith);
  total = (let total = step.total in omega arith);
  reads = λ more. rw (step.reads more) (first_front head.sizes (statements_of head.sizes head.count (reader.held ++ more)));
}

more_front : (sizes : Sizes) (front : List Statement) (s : Statement) (r : Read (List Statement))
    → with_front sizes front (r >>= λ others. Ok (s ∷ others.0, others.1)) ≡ with_front sizes (front ++ s ∷ []) r
more_front sizes front s (Ok x) = ap (λ (l : List Statement). Ok (record { sizes = sizes; statements = l }, x.1)) (sym (append_assoc front (s ∷ []) x.0))
more_front sizes front s (Err stop) = refl

pub follows_more : (old mid now : Option (List ℕ)) (reader to : Reader) (sizes : Sizes) (listed : List Statement) (s : Statement) (n left : ℕ) → n ≡ suc left
    → Follows old mid reader sizes listed n → StepsTo (statement_of sizes) reader to mid now s → Follows old now to sizes (listed ++ s ∷ []) left
unfolding statements_of
follows_more old mid now reader to sizes listed s n left more_left before step =
    let len = length-append before.got step.got in
    let held = length-append reader.held step.got in
    record {
      got = before.got ++ step.got;
      bytes = All-append (λ byte. byte < 256) before.got step.got before.bytes step.bytes;
      taken = Consumes-trans old mid now before.got step.got before.taken step.taken;
      few = omega (arith, len, held, before.total, step.few);
      total = omega (arith, len, held, before.total, step.total);
      reads = λ more.
          let one : statement_of sizes (reader.held ++ (step.got ++ more)) ≡ Ok (s, to.held ++ more) =
          ap (statement_of sizes) (sym (append_assoc reader.held step.got more)) ∙ step.reads more in
          let next : statements_of sizes (suc left) (reader.held ++ (step.got ++ more)) ≡ (statements_of sizes left (to.held ++ more) >>= λ others. Ok (s ∷ others.0, others.1)) =
          rw one refl in
          ap listing_of (append_assoc before.got step.got more) ∙ before.reads (step.got ++ more)
          ∙ ap (λ k. with_front sizes listed (statements_of sizes k (reader.held ++ (step.got ++ more)))) more_left
          ∙ ap (with_front sizes listed) next ∙ more_front sizes listed s (statements_of sizes left (to.held ++ more));
    }

-- a statement was read last
pub stands_behind : (old now : Option (List ℕ)) (reader : Reader) (sizes : Sizes) (listed : List Statement) (s : Statement) (left : ℕ) → Follows old now reader sizes (listed ++ s ∷ []) left
    → StandsAtStatement old now
stands_behind old now reader sizes listed s left f = record {
  taken = f.got;
  consumed = f.taken;
  sizes = sizes;
  read = listed ++ s ∷ [];
  some = omega (arith, length-append listed (s ∷ []));
  left = left;
  behind = reader.held;
  gives = f.reads;
}

-- ---- a step that gives no value

-- memory is not why
pub stops_memory : {A : Type 0} (read : List ℕ → Read A) (from : Reader) (old new : Option (List ℕ)) (fault : ImageFault) → StopsAt read from old new fault → fault ≡ OutOfMemory → ⊥
stops_memory read from old new fault s is = subst (λ f. IsStop f read from s.got s.last new) is s.cause

pub ending_memory : (from : Reader) (old new : Option (List ℕ)) (fault : ImageFault) → IsEnding (Err fault) from old new → fault ≡ OutOfMemory → ⊥
ending_memory from old new fault e is = subst (λ f. IsEnding (Err f) from old new) is e

-- the listing gives none either
head_stops : (bytes : List ℕ) (stop : Stop) → head_of bytes ≡ Err stop → listing_of bytes ≡ Err stop
unfolding listing_of
head_stops bytes stop e = rw e refl

statement_stops : (sizes : Sizes) (left : ℕ) (bytes : List ℕ) (stop : Stop) → statement_of sizes bytes ≡ Err stop → statements_of sizes (suc left) bytes ≡ Err stop
unfolding statements_of
statement_stops sizes left bytes stop e = rw e refl

pub stops_start : (old new : Option (List ℕ)) (fault : ImageFault) → StopsAt head_of new_reader old new fault → StopsAt listing_of new_reader old new fault
stops_start old new fault s = record { got = s.got; last = s.last; bytes = s.bytes; taken = s.taken; few = s.few; cause = on fault s.cause }
  where
    on : (f : ImageFault) → IsStop f head_of new_reader s.got s.last new → IsStop f listing_of new_reader s.got s.last new
    on (Refused offset word) (left, is, within, none, inl wrong) =
        (left, is, within, none, inl (λ more. head_stops (s.got ++ more) (Wrong (left + length more) word) (wrong more)))
    on (Refused offset word) (left, is, within, none, inr short) =
        (left, is, within, none, inr (head_stops s.got (Short left) short.0, short.1, short.2))
    on TooLong (left, short, all, one) = (left, head_stops s.got (Short left) short, all, one)
    on ReadFault (left, short, none) = (left, head_stops s.got (Short left) short, none)
    on OutOfMemory none = absurd none

module _ (old mid new : Option (List ℕ)) (reader : Reader) (sizes : Sizes) (listed : List Statement) (n k : ℕ) (more_left : n ≡ suc k) (before : Follows old mid reader sizes listed n) where
  -- what stands behind gives no statement
  none_behind : (more : List ℕ) (stop : Stop) → statement_of sizes (reader.held ++ more) ≡ Err stop → listing_of (before.got ++ more) ≡ Err stop
  none_behind more stop e =
      before.reads more ∙ ap (λ j. with_front sizes listed (statements_of sizes j (reader.held ++ more))) more_left
      ∙ ap (with_front sizes listed) (statement_stops sizes k (reader.held ++ more) stop e)

  pub stops_more : (fault : ImageFault) → StopsAt (statement_of sizes) reader mid new fault → StopsAt listing_of new_reader old new fault
  stops_more fault s =
      let all = before.got ++ s.got in
      let group : before.got ++ (s.got ++ s.last) ≡ all ++ s.last = sym (append_assoc before.got s.got s.last) in
      let len = length-append before.got s.got in
      let held = length-append reader.held s.got in
      record {
        got = all;
        last = s.last;
        bytes = subst AreBytes group (All-append (λ byte. byte < 256) before.got (s.got ++ s.last) before.bytes s.bytes);
        taken = subst (Consumes old new) group (Consumes-trans old mid new before.got (s.got ++ s.last) before.taken s.taken);
        few = omega (arith, len, held, before.total, s.few);
        cause = on fault s.cause;
      }
    where
      on : (f : ImageFault) → IsStop f (statement_of sizes) reader s.got s.last new → IsStop f listing_of new_reader (before.got ++ s.got) s.last new
      on (Refused offset word) (left, is, within, none, inl wrong) =
          let len = length-append before.got s.got in
          let held = length-append reader.held s.got in (
            left,
            omega (arith, is, within, len, held, before.total),
            omega (arith, within, len, held, before.total),
            none,
            inl (λ more.
                ap listing_of (append_assoc before.got s.got more)
                ∙ none_behind (s.got ++ more) (Wrong (left + length more) word) (ap (statement_of sizes) (sym (append_assoc reader.held s.got more)) ∙ wrong more)),
          )
      on (Refused offset word) (left, is, within, none, inr short) =
          let len = length-append before.got s.got in
          let held = length-append reader.held s.got in (
            left,
            omega (arith, is, within, len, held, before.total),
            omega (arith, within, len, held, before.total),
            none,
            inr (none_behind s.got (Short left) short.0, short.1, short.2),
          )
      on TooLong (left, short, all, one) =
          let len = length-append before.got s.got in
          let held = length-append reader.held s.got in
          (left, none_behind s.got (Short left) short, omega (arith, all, len, held, before.total), one)
      on ReadFault (left, short, none) = (left, none_behind s.got (Short left) short, none)
      on OutOfMemory none = absurd none

-- ---- what the whole input gives

-- bytes of which more are read, behind those taken
pub read_front : (got rest : List ℕ) → length got ≤ input_limit → take input_limit (got ++ rest) ≡ got ++ take (input_limit - length got) rest
read_front got rest few =
    let all : length got + (input_limit - length got) ≡ input_limit = omega arith in
    ap (λ n. take n (got ++ rest)) (sym all) ∙ take-append-add got rest (input_limit - length got)

-- a fault that stands whatever follows
wrong_input : (got rest : List ℕ) (left : ℕ) (word : ImageWord) → length got ≤ input_limit → left ≤ length got
    → ((more : List ℕ) → listing_of (got ++ more) ≡ Err (Wrong (left + length more) word)) → unpacked (got ++ rest) ≡ Err (Refused (length got - left) word)
unfolding unpacked
wrong_input got rest left word few within wrong =
    let more = take (input_limit - length got) rest in
    let b = nat_lt input_limit (length (got ++ rest)) in
    let total : length (got ++ more) - (left + length more) ≡ length got - left = omega (arith, length-append got more) in
    ap (λ l. concluded b (length l) (listing_of l)) (read_front got rest few)
    ∙ ap (concluded b (length (got ++ more))) (wrong more)
    ∙ ap (λ n. Err (Refused n word)) total

-- an input that ends
whole_input : (got : List ℕ) → length got ≤ input_limit → unpacked got ≡ concluded false (length got) (listing_of got)
unfolding unpacked
whole_input got few =
    ap (λ b. concluded b (length (take input_limit got)) (listing_of (take input_limit got))) (le-ltb input_limit (length got) few)
    ∙ ap (λ l. concluded false (length l) (listing_of l)) (take_all input_limit got few)

-- an input that goes on behind the last byte that is read
long_input : (got rest : List ℕ) → length got ≡ input_limit → 0 < length rest → unpacked (got ++ rest) ≡ concluded true (length got) (listing_of got)
unfolding unpacked
long_input got rest all some =
    ap (λ b. concluded b (length (take input_limit (got ++ rest))) (listing_of (take input_limit (got ++ rest)))) (lt-ltb input_limit (length (got ++ rest)) (omega (arith, length-append got rest)))
    ∙ ap (λ l. concluded true (length l) (listing_of l)) (take_at got rest input_limit all)

-- bytes of which nothing else was taken
only_got : (got last rest : List ℕ) (all : List ℕ) → last ≡ [] → all ≡ (got ++ last) ++ rest → all ≡ got ++ rest
only_got got last rest all none is = is ∙ ap (λ l. (got ++ l) ++ rest) none ∙ ap (λ l. l ++ rest) (append-nil got)

-- why there is no listing, where the bytes are known
stop_answers : (fault : ImageFault) (x y : List ℕ) (s : StopsAt listing_of new_reader (Some x) (Some y) fault) → Answers (Err fault) (Some x) (Some y)
stop_answers fault x y s = on fault s.cause
  where
    on : (f : ImageFault) → IsStop f listing_of new_reader s.got s.last (Some y) → Answers (Err f) (Some x) (Some y)
    on (Refused offset word) (left, is, within, none, inl wrong) =
        ap unpacked (only_got s.got s.last y x none s.taken) ∙ wrong_input s.got y left word (let few = s.few in omega arith) within wrong
        ∙ ap (λ n. Err (Refused n word)) (let same : length s.got - left ≡ offset = omega (arith, is) in same)
    on (Refused offset word) (left, is, within, none, inr short) =
        let all : x ≡ s.got = only_got s.got s.last y x none s.taken ∙ ap (λ l. s.got ++ l) short.2 ∙ append-nil s.got in
        ap unpacked all ∙ whole_input s.got (let few = s.few in omega arith) ∙ ap (concluded false (length s.got)) short.0
        ∙ ap (λ n. Err (Refused n Cut)) (let same : length s.got - left ≡ offset = omega (arith, is) in same) ∙ ap (λ w. Err (Refused offset w)) (sym short.1)
    on TooLong (left, short, all, one) =
        ap unpacked (s.taken ∙ append_assoc s.got s.last y)
        ∙ long_input s.got (s.last ++ y) (omega (arith, all)) (omega (arith, one, length-append s.last y))
        ∙ ap (concluded true (length s.got)) short
    on ReadFault (left, short, none) = (s.got, only_got s.got s.last y x none s.taken, subst IsOpen (sym short) tt)
    on OutOfMemory none = absurd none

stop_takes : (old new : Option (List ℕ)) (fault : ImageFault) → StopsAt listing_of new_reader old new fault → Takes old new
stop_takes old new fault s = record { taken = s.got ++ s.last; bytes = s.bytes; consumed = s.taken; few = on fault s.cause }
  where
    on : (f : ImageFault) → IsStop f listing_of new_reader s.got s.last new → length (s.got ++ s.last) ≤ input_limit + 1
    on (Refused offset word) cause = let none = ap length cause.3 in omega (arith, length-append s.got s.last, none, s.few)
    on TooLong cause = omega (arith, length-append s.got s.last, cause.2, cause.3)
    on ReadFault cause = let none = ap length cause.2 in omega (arith, length-append s.got s.last, none, s.few)
    on OutOfMemory none = absurd none

pub stop_unpacks : (old new : Option (List ℕ)) (fault : ImageFault) → StopsAt listing_of new_reader old new fault → Unpacks (Err fault) old new
stop_unpacks None new fault s = record { answers = tt; takes = stop_takes None new fault s }
stop_unpacks (Some x) None fault s = absurd s.taken
stop_unpacks (Some x) (Some y) fault s = record { answers = stop_answers fault x y s; takes = stop_takes (Some x) (Some y) fault s }

-- want of memory
pub memory_unpacks : (old now : Option (List ℕ)) (reader : Reader) (sizes : Sizes) (listed : List Statement) (left : ℕ) → Follows old now reader sizes listed left → Unpacks (Err OutOfMemory) old now
memory_unpacks None now reader sizes listed left f = record { answers = tt; takes = record { taken = f.got; bytes = f.bytes; consumed = f.taken; few = omega (arith, f.few) } }
memory_unpacks (Some x) None reader sizes listed left f = absurd f.taken
memory_unpacks (Some x) (Some y) reader sizes listed left f = record { answers = tt; takes = record { taken = f.got; bytes = f.bytes; consumed = f.taken; few = omega (arith, f.few) } }

-- ---- behind the last statement

-- bytes stand there
ended_some : (b : Bool) (total : ℕ) (l : ListingValue) (rest : List ℕ) → 0 < length rest → ended b total l rest ≡ Err (Refused (total - length rest) Trailing)
ended_some b total l [] some = absurd (omega arith)
ended_some true total l (byte ∷ rest) some = refl
ended_some false total l (byte ∷ rest) some = refl

module _ (old mid new : Option (List ℕ)) (reader : Reader) (sizes : Sizes) (listed : List Statement) (f : Follows old mid reader sizes listed 0) where
  abbrev pub listing : ListingValue
  listing = record { sizes = sizes; statements = listed }

  -- all statements were read
  read_all : (more : List ℕ) → listing_of (f.got ++ more) ≡ Ok (listing, reader.held ++ more)
  unfolding statements_of
  read_all more = f.reads more ∙ ap (λ (l : List Statement). Ok (record { sizes = sizes; statements = l }, reader.held ++ more)) (append-nil listed)

  -- and nothing else
  read_only : reader.held ≡ [] → listing_of f.got ≡ Ok (listing, [])
  read_only none =
      ap listing_of (sym (append-nil f.got)) ∙ read_all [] ∙ ap (λ (l : List ℕ). Ok (listing, l ++ [])) none

  ending_takes : (got : List ℕ) → AreBytes got → Consumes mid new got → length f.got + length got ≤ input_limit + 1 → Takes old new
  ending_takes got are taken few = record {
    taken = f.got ++ got;
    bytes = All-append (λ byte. byte < 256) f.got got f.bytes are;
    consumed = Consumes-trans old mid new f.got got f.taken taken;
    few = omega (arith, length-append f.got got);
  }

  -- how many bytes were taken, where all are used
  used_all : reader.held ≡ [] → length f.got ≡ reader.at
  used_all none = let len = ap length none in omega (arith, f.total)

  -- bytes stand behind the last statement
  trailing : (more rest : List ℕ) → 0 < length (reader.held ++ more) → length f.got + length more ≤ input_limit
      → unpacked ((f.got ++ more) ++ rest) ≡ Err (Refused reader.at Trailing)
  unfolding unpacked
  trailing more rest some few =
      let got = f.got ++ more in
      let beyond = take (input_limit - length got) rest in
      let b = nat_lt input_limit (length (got ++ rest)) in
      let fits : length got ≤ input_limit = omega (arith, length-append f.got more) in
      let left = reader.held ++ (more ++ beyond) in
      let sum = length-append reader.held (more ++ beyond) in
      let front = length-append reader.held more in
      let joined = length-append more beyond in
      let read : listing_of (got ++ beyond) ≡ Ok (listing, left) = ap listing_of (append_assoc f.got more beyond) ∙ read_all (more ++ beyond) in
      let at : length (got ++ beyond) - length left ≡ reader.at = omega (arith, length-append got beyond, length-append f.got more, sum, joined, f.total) in
      ap (λ l. concluded b (length l) (listing_of l)) (read_front got rest fits)
      ∙ ap (concluded b (length (got ++ beyond))) read
      ∙ ended_some b (length (got ++ beyond)) listing left (omega arith)
      ∙ ap (λ n. Err (Refused n Trailing)) at

  pub ended_unpacks : IsEnding (Ok tt) reader mid new → Unpacks (Ok listing) old new
  ended_unpacks e = record {
    answers = on old mid new f.taken e.2 e.3;
    takes = ending_takes [] (All-nil (λ byte. byte < 256)) (Consumes-kept mid mid new [] (Consumes-nil mid) e.2) (omega (arith, f.few));
  }
    where
      on : (a b c : Option (List ℕ)) → Consumes a b f.got → Keeps b c → IsAtEnd c → Answers (Ok listing) a c
      on None b c taken kept end = tt
      on (Some x) None c taken kept end = absurd taken
      on (Some x) (Some y) None taken kept end = absurd kept
      on (Some x) (Some y) (Some z) taken kept end =
          let all : x ≡ f.got = taken ∙ ap (λ l. f.got ++ l) (sym kept ∙ end) ∙ append-nil f.got in
          (ap unpacked all ∙ whole_input f.got f.few ∙ ap (concluded false (length f.got)) (read_only e.0), end)

  pub ending_unpacks : (fault : ImageFault) → IsEnding (Err fault) reader mid new → Unpacks (Err fault) old new
  ending_unpacks (Refused offset word) e = record {
    answers = on old mid new f.taken e.4;
    takes = ending_takes e.2 e.3 e.4 (omega (arith, f.total, length-append reader.held e.2, e.6));
  }
    where
      on : (a b c : Option (List ℕ)) → Consumes a b f.got → Consumes b c e.2 → Answers (Err (Refused offset word)) a c
      on None b c taken more = tt
      on (Some x) None c taken more = absurd taken
      on (Some x) (Some y) None taken more = absurd more
      on (Some x) (Some y) (Some z) taken more =
          ap unpacked (taken ∙ ap (λ l. f.got ++ l) more ∙ sym (append_assoc f.got e.2 z))
          ∙ trailing e.2 z e.5 (omega (arith, f.total, length-append reader.held e.2, e.6))
          ∙ ap (λ n. Err (Refused n Trailing)) (sym e.0) ∙ ap (λ w. Err (Refused offset w)) (sym e.1)
  ending_unpacks TooLong e = record {
    answers = on old mid new f.taken e.4;
    takes = ending_takes (e.2 ∷ []) (All-cons (λ byte. byte < 256) e.2 [] e.3 (All-nil (λ byte. byte < 256))) e.4 (let used = used_all e.0 in omega (arith, e.1));
  }
    where
      on : (a b c : Option (List ℕ)) → Consumes a b f.got → Consumes b c (e.2 ∷ []) → Answers (Err TooLong) a c
      on None b c taken more = tt
      on (Some x) None c taken more = absurd taken
      on (Some x) (Some y) None taken more = absurd more
      on (Some x) (Some y) (Some z) taken more =
          let used = used_all e.0 in
          ap unpacked (taken ∙ ap (λ l. f.got ++ l) more) ∙ long_input f.got ((e.2 ∷ []) ++ z) (omega (arith, e.1)) (omega (arith, length-append (e.2 ∷ []) z))
          ∙ ap (concluded true (length f.got)) (read_only e.0)
  ending_unpacks ReadFault e = record {
    answers = on old mid new f.taken e.2;
    takes = ending_takes [] (All-nil (λ byte. byte < 256)) (Consumes-kept mid mid new [] (Consumes-nil mid) e.2) (omega (arith, f.few));
  }
    where
      on : (a b c : Option (List ℕ)) → Consumes a b f.got → Keeps b c → Answers (Err ReadFault) a c
      on None b c taken kept = tt
      on (Some x) None c taken kept = absurd taken
      on (Some x) (Some y) None taken kept = absurd kept
      on (Some x) (Some y) (Some z) taken kept = (f.got, taken ∙ ap (λ l. f.got ++ l) (sym kept), subst IsOpen (sym (read_only e.0)) refl)
  ending_unpacks OutOfMemory e = absurd e
