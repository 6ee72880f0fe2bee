mod SinceFacts
