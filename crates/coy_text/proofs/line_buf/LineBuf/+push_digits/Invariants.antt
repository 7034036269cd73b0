use Rattle.coy_text.proofs.line_buf.LineBuf.+push_digits.Given as goal

abbrev pub decreases-push_digits : goal.decreases-push_digits
decreases-push_digits l = l.value
