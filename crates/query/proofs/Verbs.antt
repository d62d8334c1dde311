-- A query by the fields of its line: its verb, the number of a `follows`, and the line itself.
use Rattle.std.proofs.Common.{◌≡◌, ℕ, true, false, List, ◌∷◌, length, take, Ok, Err, codes, Result, sym, ap, ◌∙◌}
use Rattle.std.specs.Str.{bytes_eq}
use Rattle.std.proofs.lemmas.Bool.{cond-true, cond-false}
use Rattle.query.specs.declared.faults.QueryFault.{QueryFault}
use Rattle.query.specs.declared.faults.QueryFault.TheVariants as fault
use Rattle.query.specs.declared.reply.Reply.{Reply}
use Rattle.query.specs.Fields.{Field, fields_of}
use Rattle.query.specs.Names.{and_then, with_names}
use Rattle.query.specs.Queries.{pass_up, follows_reply, given_reply, given_known, fields_reply, fields_known, reply_by_line, known_by_line, known_upto, reply_of, known_after}
use Rattle.text.specs.declared.faults.FieldFault.{FieldFault}
use Rattle.text.specs.Lines.{line_end_of}

module _ (names : List (List ℕ)) (rows : List ℕ) (start line : ℕ) where
  -- what a query is answered, with the known set afterwards
  pub record Answered (bytes : List ℕ) (r : Result Reply QueryFault) (after : ℕ) : Type 0 where
    pub answer : r ≡ reply_by_line names rows start line bytes
    pub known : after ≡ known_by_line names start line bytes

  -- the verb
  module _ (bytes : List ℕ) (verb : Field) (fields : List Field) (is : fields_of bytes ≡ verb ∷ fields) (r : Result Reply QueryFault) (after : ℕ) where
    pub by_given : bytes_eq verb.bytes (codes "given") ≡ true → r ≡ given_reply (with_names names line start fields) → after ≡ given_known start (with_names names line start fields) → Answered bytes r after
    by_given same er ek =
        record {
          answer = er ∙ sym (ap (fields_reply names rows start line (length bytes)) is ∙ cond-true _ _ _ same);
          known = ek ∙ sym (ap (fields_known names start line) is ∙ cond-true _ _ _ same);
        }

    module _ (other : bytes_eq verb.bytes (codes "given") ≡ false) (kept : after ≡ start) where
      as_before : after ≡ known_by_line names start line bytes
      as_before = kept ∙ sym (ap (fields_known names start line) is ∙ cond-false _ _ _ other)

      pub by_follows : bytes_eq verb.bytes (codes "follows") ≡ true → r ≡ follows_reply names rows start line (length bytes) fields → Answered bytes r after
      by_follows same er =
          record { answer = er ∙ sym (ap (fields_reply names rows start line (length bytes)) is ∙ cond-false _ _ _ other ∙ cond-true _ _ _ same); known = as_before }

  -- the line up to its line feed
  module _ (text : List ℕ) (end : ℕ) (is : Ok end ≡ line_end_of line 0 text) where
    pub line_reply : reply_by_line names rows start line (take end text) ≡ reply_of names rows start line text
    line_reply = ap (λ r. and_then (pass_up r) (λ n. reply_by_line names rows start line (take n text))) is

    pub line_known : known_by_line names start line (take end text) ≡ known_after names start line text
    line_known = ap (known_upto names start line text) is

  -- no line feed
  module _ (text : List ℕ) (e : FieldFault) (is : Err e ≡ line_end_of line 0 text) where
    pub unended_reply : Err (fault.Field e) ≡ reply_of names rows start line text
    unended_reply = ap (λ r. and_then (pass_up r) (λ n. reply_by_line names rows start line (take n text))) is

    pub unended_known : start ≡ known_after names start line text
    unended_known = ap (known_upto names start line text) is
